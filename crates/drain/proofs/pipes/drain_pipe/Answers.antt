use Rattle.std.proofs.Common.{vec_items, refl}
use Rattle.std.proofs.lemmas.Result.{MatchResult-weaker}
use Rattle.pipe.specs.Pipes.{line, pipe_ways}
use Rattle.drain.proofs.Lines.{drained_line}
use Rattle.drain.proofs.pipes.drain_pipe.Goals as goal

pub returns : goal.returns
returns c = record {
  after = MatchResult-weaker c.drain.result c.drain.ensures.after
      (λ es d. drained_line pipe_ways line (λ p. refl) (λ p b q h. h.1) (λ p b q h. h.1) c.args.pipe.now c.drain.new.pool (vec_items es) d)
      (λ _ same. same);
}
