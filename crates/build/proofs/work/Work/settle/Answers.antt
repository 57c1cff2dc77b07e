use Rattle.std.proofs.Common.{arith}
use Rattle.build.specs.Changes.{reach}
use Rattle.build.proofs.Altering.{kept_same, kept_both}
use Rattle.build.proofs.Settles.{settling_none, settling_more, settling_all}
use Rattle.build.proofs.Fitting.{fits}
use Rattle.build.proofs.work.Work.settle.Goals as goal

pub loop-init : goal.loop-init
loop-init g c =
    let w = g.P.Lender.ways in
    (settling_none w _ (omega (arith, c.requires.room)) (omega (arith, (fits c.args.self.now).few)), kept_same w _ c.args.self.now c.requires.backed)

pub start_one-requires : goal.start_one-requires
start_one-requires g c =
    let kept = c.loop.invariant.1 in record { backed = kept.backed; room = omega (arith, kept.spent, c.requires.room, c.loop.auto.buffer) }

pub loop-smaller : goal.loop-smaller
loop-smaller g c = omega (arith, c.loop-test.ensures.after.1)

pub loop-preserved : goal.loop-preserved
loop-preserved g c =
    let turned = c.loop-test.ensures.after in
    (settling_more g.P.Lender.ways _ _ _ c.loop.invariant.0 turned.0 turned.1, kept_both (reach c.args.self.now) (λ h. h) c.loop.invariant.1 c.loop-test.ensures.kept)

pub returns : goal.returns
returns g c = record {
  after = settling_all g.P.Lender.ways _ _ _ c.loop.invariant.0 c.loop-test.ensures.after;
  kept = kept_both (reach c.args.self.now) (λ h. h) c.loop.invariant.1 c.loop-test.ensures.kept;
}
