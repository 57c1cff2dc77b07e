use Rattle.std.proofs.Common.{slice_index, ◌∙◌, arith, length-set}
use Rattle.pool.proofs.Totals.{total_point}
use Rattle.pipe.proofs.Tallies.{raised_total}
use Rattle.pipe.proofs.tally.Tally.add.Goals as goal

pub overflow_add-self : goal.overflow_add-self
overflow_add-self c = omega (arith, total_point (slice_index c.args.self.now.counts) c.args.b (omega arith), c.requires)

pub invariant_of-self : goal.invariant_of-self
invariant_of-self c =
    let t = c.args.self.now in
    record {
      summed = omega (arith, raised_total t.counts c.args.b t.size (omega arith), t.summed);
      size = length-set _ _ _ ∙ t.size;
    }

pub returns-clause-sum : goal.returns-clause-sum
returns-clause-sum c = let t = c.args.self.now in raised_total t.counts c.args.b t.size (omega arith)
