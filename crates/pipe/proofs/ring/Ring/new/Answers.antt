use Rattle.std.proofs.Common.{refl}
use Rattle.pipe.specs.Queue.{queue}
use Rattle.pipe.proofs.ring.Ring.new.Goals as goal

pub returns : goal.returns
unfolding queue
returns c = record { result = refl }
