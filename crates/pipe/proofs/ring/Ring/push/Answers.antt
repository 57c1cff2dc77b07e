use Rattle.std.proofs.Common.{◌<◌, ◌∙◌, arith, length-set}
use Rattle.pipe.specs.Rings.{entered, length_queue}
use Rattle.pipe.proofs.ring.Ring.push.Goals as goal

pub invariant_of-self : goal.invariant_of-self
invariant_of-self c =
    let r = c.args.self.now in
    record {
      inside = r.inside;
      few = omega (arith, length_queue r.slots r.head r.len, c.requires);
      size = length-set _ _ _ ∙ r.size;
    }

pub returns : goal.returns
returns c =
    let r = c.args.self.now in
    let room : r.len < 63 = omega (arith, length_queue r.slots r.head r.len, c.requires) in
    record { after = entered r.slots r.head r.len c.args.b r.inside room r.size }
