use Rattle.std.proofs.Common.{◌+◌, ◌<◌, sym, ap, subst, arith}
use Rattle.build.proofs.Halts.{Stopping, stopping_none, stopping_one, stopping_on, stopping_all}
use Rattle.build.specs.Models.{model}
use Rattle.build.proofs.work.Work.stop_makes.Goals as goal
use Rattle.build.proofs.work.Work.stop_makes.Goals.{then-is_make, else-is_make}

pub loop-m-init : goal.loop-m-init
loop-m-init c = stopping_none c.args.self.now

pub stop_make-requires : goal.stop_make-requires
stop_make-requires c =
    let s = c.loop-m.invariant in
    let same = ap (λ t. t.nodes) s.plan in
    record { node = omega (arith, same) }

pub loop-m-preserved : goal.loop-m-preserved
loop-m-preserved c =
    let e = c.args.self.now in
    let less : c.loop-m.m < (model e).plan.nodes = omega arith in
    elim c.if-is_make.branch [
      | then-is_make w ↦ subst (Stopping e (c.loop-m.m + 1)) (sym w.self-is) (stopping_one c.loop-m.invariant less _ w.if-is_make.ensures w.stop_make.ensures.after)
      | else-is_make w ↦ subst (Stopping e (c.loop-m.m + 1)) (sym w.self-is) (stopping_on c.loop-m.invariant less w.if-is_make.ensures)
    ]

pub returns : goal.returns
returns c = record { after = stopping_all c.loop-m.invariant (omega arith) }
