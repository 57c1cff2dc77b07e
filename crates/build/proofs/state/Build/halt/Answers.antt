use Rattle.build.proofs.Keeping.{kept_call, sound_by}
use Rattle.build.proofs.Reaching.{reach_within}
use Rattle.build.proofs.state.Build.halt.Goals as goal
use Rattle.law.specs.Calls as requests

pub halt-requires : goal.halt-requires
halt-requires g c = let b = c.args.self.now in record { within = reach_within b.work (sound_by b) }

pub invariant_of-self : goal.invariant_of-self
invariant_of-self g c =
    let done = c.halt in kept_call g.P.Lender.ways requests.halt c.args.self.now done.new.self c.args.pool.now done.new.pool c.args.buffer.now done.new.buffer done.result done.ensures.after

pub returns : goal.returns
returns g c = record { after = c.halt.ensures.after; unaltered = c.halt.ensures.unaltered }
