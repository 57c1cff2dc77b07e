use Rattle.build.proofs.Halts.{EndingJobs}
use Rattle.build.proofs.work.Work.end_jobs.Given as goal

abbrev pub invariant-loop-n : goal.invariant-loop-n
invariant-loop-n g l = EndingJobs g.P.Lender.ways l.initial.self l.initial.pool l.initial.buffer l.n l.self l.pool l.buffer
