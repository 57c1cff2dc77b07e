use Rattle.std.proofs.Common.{sym, ap, ◌∙◌}
use Rattle.pool.specs.Meaning.{count}
use Rattle.pipe.proofs.state.Pipe.new.Goals as goal

pub invariant_of-result-clause-counted : goal.invariant_of-result-clause-counted
unfolding count
invariant_of-result-clause-counted c = λ k. c.new-2.ensures.counts k ∙ ap (count k) (sym c.new.ensures.result)
