use Rattle.std.proofs.Common.{rules, ◌≡◌, Some, None, ap, sym, ◌∙◌, arith}
use Rattle.std.specs.Option.{option_map}
use Rattle.build.specs.Filling.{fault_from}
use Rattle.build.specs.Models.{model}
use Rattle.build.proofs.Descending.{no_turns, did_not_fail, failed_job, failed_make}
use Rattle.build.proofs.work.Work.failure.Goals as goal

pub returns-in_default : goal.returns-in_default
returns-in_default c =
    let none = did_not_fail (model c.args.self.now) c.loop-turns._turns c.loop-turns.k c.loop-turns-test.true c.progress-node.result c.progress-node.ensures c.in_default.not-Failed in
    record { result = sym none ∙ c.loop-turns.invariant }

pub returns-then-not-is_make : goal.returns-then-not-is_make
returns-then-not-is_make c =
    let own = failed_job (model c.args.self.now) c.loop-turns._turns c.loop-turns.k c.loop-turns-test.true c.progress-node.result c.progress-node.ensures c.in-Failed.cause c.in-Failed.is c.if-not-is_make.ensures in
    record { result = sym own ∙ c.loop-turns.invariant }

pub returns-in_err-k : goal.returns-in_err-k
returns-in_err-k c =
    let none = failed_make (model c.args.self.now) c.loop-turns._turns c.loop-turns.k c.loop-turns-test.true c.progress-node.result c.progress-node.ensures c.in-Failed.cause c.in-Failed.is c.if-not-is_make.ensures None (search rules) in
    let given : c.from_residual.result ≡ None = search rules in
    record { result = ap (option_map (fault_from (model c.args.self.now))) given ∙ sym none ∙ c.loop-turns.invariant }

pub loop-turns-preserved : goal.loop-turns-preserved
loop-turns-preserved c =
    let onward = failed_make (model c.args.self.now) c.loop-turns._turns c.loop-turns.k c.loop-turns-test.true c.progress-node.result c.progress-node.ensures c.in-Failed.cause c.in-Failed.is c.if-not-is_make.ensures (Some c.in_ok-k.k) (search rules) in
    sym onward ∙ c.loop-turns.invariant

pub returns : goal.returns
returns c =
    let none = no_turns (model c.args.self.now) c.loop-turns._turns c.loop-turns.k (omega arith) in
    record { result = sym none ∙ c.loop-turns.invariant }
