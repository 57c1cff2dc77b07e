use Rattle.std.proofs.Common.{slice_index, ◌∙◌, arith, length-set}
use Rattle.pool.proofs.Totals.{total_point}
use Rattle.pipe.proofs.Tallies.{lowered_total}
use Rattle.pipe.proofs.tally.Tally.remove.Goals as goal

pub overflow_sub-self-2 : goal.overflow_sub-self-2
overflow_sub-self-2 c =
    let t = c.args.self.now in
    omega (arith, c.requires, total_point (slice_index t.counts) c.args.b (omega arith), t.summed)

pub invariant_of-self : goal.invariant_of-self
invariant_of-self c =
    let t = c.args.self.now in
    record {
      summed = omega (arith, lowered_total t.counts c.args.b t.size (omega arith) c.requires, t.summed);
      size = length-set _ _ _ ∙ t.size;
    }

pub returns-clause-sum : goal.returns-clause-sum
returns-clause-sum c =
    let t = c.args.self.now in
    omega (arith, lowered_total t.counts c.args.b t.size (omega arith) c.requires)
