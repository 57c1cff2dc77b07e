use Rattle.std.proofs.Common.{arith}
use Rattle.build.proofs.Keeping.{kept_call, sound_by}
use Rattle.build.proofs.Reaching.{reach_within}
use Rattle.build.proofs.state.Build.kill.Goals as goal
use Rattle.law.specs.Calls as requests

pub kill-requires : goal.kill-requires
kill-requires g c = let b = c.args.self.now in record { within = omega (arith, reach_within b.work (sound_by b)) }

pub invariant_of-self : goal.invariant_of-self
invariant_of-self g c =
    let done = c.kill in kept_call g.P.Lender.ways (requests.kill c.args.node) c.args.self.now done.new.self c.args.pool.now done.new.pool c.args.buffer.now done.new.buffer done.result done.ensures.after

pub returns : goal.returns
returns g c = record { after = c.kill.ensures.after; unaltered = c.kill.ensures.unaltered }
