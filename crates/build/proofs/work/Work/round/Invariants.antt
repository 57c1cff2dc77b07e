use Rattle.build.proofs.RoundByRound.{Rounding}
use Rattle.build.proofs.work.Work.round.Given as goal

abbrev pub invariant-loop-n : goal.invariant-loop-n
invariant-loop-n g l = Rounding g.P.Lender.ways l.initial.self l.initial.pool l.initial.buffer l.n l.self l.pool l.buffer
