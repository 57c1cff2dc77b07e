use Rattle.std.proofs.Common.{arith}
use Rattle.build.proofs.Keeping.{kept_call, sound_by}
use Rattle.build.proofs.Reaching.{reach_within}
use Rattle.build.proofs.state.Build.step.Goals as goal
use Rattle.law.specs.Calls as requests

pub step-requires : goal.step-requires
step-requires g c = let b = c.args.self.now in record { going = b.going; within = omega (arith, reach_within b.work (sound_by b)) }

pub invariant_of-self : goal.invariant_of-self
invariant_of-self g c =
    let done = c.step in kept_call g.P.Lender.ways (requests.step c.args.node) c.args.self.now done.new.self c.args.pool.now done.new.pool c.args.buffer.now done.new.buffer done.result done.ensures.after

pub returns : goal.returns
returns g c = record { after = c.step.ensures.after; unaltered = c.step.ensures.unaltered }
