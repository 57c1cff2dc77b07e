use Rattle.build.proofs.RoundByRound.{SoFar}
use Rattle.build.proofs.work.Work.rounds.Given as goal
use Rattle.build.specs.Models.{model}
use Rattle.law.specs.Sound.{steps_left}

abbrev pub invariant-loop-self : goal.invariant-loop-self
invariant-loop-self g l = SoFar g.P.Lender.ways l.initial.self l.initial.pool l.initial.buffer l.steps l.self l.pool l.buffer

abbrev pub decreases-loop-self : goal.decreases-loop-self
decreases-loop-self g l = steps_left (model l.self).plan (model l.self).nodes
