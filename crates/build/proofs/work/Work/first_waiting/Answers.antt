use Rattle.std.proofs.Common.{◌≡◌, ◌+◌, sym, ap, ◌∙◌, ⊎_elim, arith}
use Rattle.rules.specs.declared.progress.State.TheVariants.{Waiting, Running, Good, Failed}
use Rattle.build.specs.Models.{model}
use Rattle.build.proofs.Seeking.{then_is, sought, sought_past, sought_on, sought_at}
use Rattle.build.proofs.work.Work.first_waiting.Goals as goal
use Rattle.build.proofs.work.Work.first_waiting.Goals.{in-Running, in-Good}

pub loop-k-preserved-then-make_of-m : goal.loop-k-preserved-then-make_of-m
loop-k-preserved-then-make_of-m c =
    let b = model c.args.self.now in
    sym (sought_on b c.args.m c.loop-k.free c.loop-k.ended c.loop-k.k (omega arith) (λ e. omega arith)) ∙ c.loop-k.invariant

pub returns-in-Waiting : goal.returns-in-Waiting
returns-in-Waiting c =
    let b = model c.args.self.now in
    let same : b.plan.make c.loop-k.k ≡ c.args.m = omega arith in
    c.then_some.ensures ∙ then_is c.freed-free.result c.loop-k.k
    ∙ sym (sought_at b c.args.m c.loop-k.free c.loop-k.ended c.loop-k.k (omega arith) same c.freed-free.result c.freed-free.ensures Waiting (sym c.in-Waiting.is ∙ ap (λ x. x.state) c.progress.ensures))
    ∙ c.loop-k.invariant

pub loop-k-preserved : goal.loop-k-preserved
loop-k-preserved c =
    let b = model c.args.self.now in
    let m = c.args.m in
    let k = c.loop-k.k in
    let freed = c.freed-free.result in
    let same : b.plan.make k ≡ m = omega arith in
    let state = ap (λ x. x.state) c.progress.ensures in
    let found = sought_at b m c.loop-k.free c.loop-k.ended k (omega arith) same freed c.freed-free.ensures in
    elim c.match-progress.branch [
      | in-Running w ↦ ap (λ e. sought b m freed e (k + 1)) w.ended-is ∙ sym (found Running (sym w.in-Running.is ∙ state)) ∙ c.loop-k.invariant
      | in-Good w ↦
          ap (λ e. sought b m freed e (k + 1)) w.ended-is
          ∙ ⊎_elim (λ good. sym (found Good (sym good ∙ state))) (λ failed. sym (found (Failed failed.0) (sym failed.1 ∙ state))) w.in-Good.is ∙ c.loop-k.invariant
    ]

pub returns : goal.returns
returns c =
    let b = model c.args.self.now in
    sym (sought_past b c.args.m c.loop-k.free c.loop-k.ended c.loop-k.k (omega arith)) ∙ c.loop-k.invariant
