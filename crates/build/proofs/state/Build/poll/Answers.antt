use Rattle.std.proofs.Common.{arith}
use Rattle.build.proofs.Keeping.{kept_call, sound_by}
use Rattle.build.proofs.Reaching.{reach_within}
use Rattle.build.proofs.state.Build.poll.Goals as goal
use Rattle.law.specs.Calls as requests

pub poll-requires : goal.poll-requires
poll-requires g c = let b = c.args.self.now in record { within = omega (arith, reach_within b.work (sound_by b)) }

pub invariant_of-self : goal.invariant_of-self
invariant_of-self g c =
    let done = c.poll in kept_call g.P.Lender.ways requests.poll c.args.self.now done.new.self c.args.pool.now done.new.pool c.args.buffer.now done.new.buffer done.result done.ensures.after

pub returns : goal.returns
returns g c = record { after = c.poll.ensures.after; unaltered = c.poll.ensures.unaltered }
