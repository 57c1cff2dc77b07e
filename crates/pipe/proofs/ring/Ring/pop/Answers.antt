use Rattle.std.proofs.Common.{refl, ap, arith}
use Rattle.pipe.specs.Queue.{queue}
use Rattle.pipe.specs.Rings.{left}
use Rattle.pipe.proofs.ring.Ring.pop.Goals as goal

pub returns-then-self-eq0 : goal.returns-then-self-eq0
unfolding queue
returns-then-self-eq0 c =
    let r = c.args.self.now in
    record { after = (ap (queue r.slots r.head) c.if-self-eq0.true, refl) }

pub returns : goal.returns
returns c = let r = c.args.self.now in record { after = left r.slots r.head r.len (omega arith) }
