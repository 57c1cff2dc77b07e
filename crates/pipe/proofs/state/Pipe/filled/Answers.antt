use Rattle.std.proofs.Common.{length, ap, ◌∙◌, arith, length-take-le}
use Rattle.pipe.specs.Pipes.{out}
use Rattle.pipe.proofs.Tallies.{sum_zero}
use Rattle.pipe.proofs.state.Pipe.filled.Goals as goal

pub enter-requires : goal.enter-requires
enter-requires c =
    let so_far = ap length c.loop-b.invariant.0 ∙ length-take-le _ _ c.loop-b.auto.b-index-end in
    omega (arith, so_far, sum_zero (out c.loop-b.pipe) c.loop-b.invariant.1, c.requires)
