use Rattle.std.proofs.Common.{length, ap, ◌∙◌, arith}
use Rattle.std.proofs.lemmas.List.{length_push}
use Rattle.pool.proofs.Counts.{count_append}
use Rattle.pool.specs.Meaning.{count}
use Rattle.pipe.specs.Queue.{in_line}
use Rattle.pipe.proofs.state.Pipe.enter.Goals as goal

pub invariant_of-self : goal.invariant_of-self
invariant_of-self c =
    let p = c.args.self.now in
    let b = c.args.b in
    let long = ap length c.push.ensures.after ∙ length_push (in_line p.line) b in
    record {
      few = omega (arith, long, c.requires);
      counted = λ k. omega (arith, c.add.ensures.counts k, p.counted k, ap (count k) c.push.ensures.after, count_append k (in_line p.line) b);
      all_in = omega (arith, long, c.add.ensures.sum, p.all_in);
    }
