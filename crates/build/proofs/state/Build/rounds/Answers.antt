use Rattle.std.proofs.Common.{List, IfOk, Ok, Err, Result, ℕ}
use Rattle.build.proofs.Keeping.{kept_by, sound_by}
use Rattle.build.proofs.state.Build.rounds.Goals as goal
use Rattle.build.specs.Models.{status}
use Rattle.law.proofs.Rounds.{sound_rounds, rounds_go_on}
use Rattle.law.specs.Calls.{Status}
use Rattle.law.specs.Rounds.{RoundsCalled, TracesGoOn}
use Rattle.pool.specs.Ways.{Ways}
use Rattle.rules.specs.declared.refusal.Refusal.{Refusal}

pub rounds-requires : goal.rounds-requires
rounds-requires g c = record { sound = sound_by c.args.self.now }

pub invariant_of-self : goal.invariant_of-self
invariant_of-self g c =
    let b = c.args.self.now in
    let done = c.rounds in
    kept_by done.new.self
    (sound_rounds g.P.Lender.ways (status b.work) (status done.new.self) c.args.pool.now done.new.pool c.args.buffer.now done.new.buffer done.result (sound_by b) done.ensures.after)

-- where the rounds were accepted
go_on_made : {P : Type 0} (w : Ways P) (before after : Status) (p q : P) (old new : List ℕ) (r : Result ℕ Refusal) → RoundsCalled w before p old r after q new → IfOk r (λ _. TracesGoOn w before p old after q new)
go_on_made w before after p q old new (Ok n) d = rounds_go_on w d.1
go_on_made w before after p q old new (Err e) d = tt

pub returns : goal.returns
returns g c =
    let done = c.rounds in
    record {
      after = done.ensures.after;
      unaltered = done.ensures.unaltered;
      law = go_on_made g.P.Lender.ways (status c.args.self.now.work) (status done.new.self) c.args.pool.now done.new.pool c.args.buffer.now done.new.buffer done.result done.ensures.after;
    }
