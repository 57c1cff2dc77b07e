use Rattle.std.proofs.Common.{length, ap, arith}
use Rattle.pool.proofs.Counts.{count_first, first_counted}
use Rattle.pool.specs.Meaning.{count}
use Rattle.pipe.specs.Queue.{in_line}
use Rattle.pipe.proofs.calls.PipeLender.take.Goals as goal

-- the first byte of the line is counted
pub remove-requires : goal.remove-requires
remove-requires c =
    let p = c.args.self.now in
    let b = c.in_ok-first.first in
    omega (arith, p.counted b, ap (count b) c.in_ok-first.ensures.after, first_counted b (in_line c.pop.new.self))

pub invariant_of-self-2 : goal.invariant_of-self-2
invariant_of-self-2 c =
    let p = c.args.self.now in
    let b = c.in_ok-first.first in
    let long = ap length c.in_ok-first.ensures.after in
    record {
      few = omega (arith, long, p.few, c.add.ensures.sum);
      counted = λ k. omega (arith, c.remove.ensures.counts k, p.counted k, ap (count k) c.in_ok-first.ensures.after, count_first k b (in_line c.pop.new.self));
      all_in = omega (arith, long, c.remove.ensures.sum, p.all_in);
    }
