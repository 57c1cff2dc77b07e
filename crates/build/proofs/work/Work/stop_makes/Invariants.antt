use Rattle.build.proofs.Halts.{Stopping}
use Rattle.build.proofs.work.Work.stop_makes.Given as goal

abbrev pub invariant-loop-m : goal.invariant-loop-m
invariant-loop-m l = Stopping l.initial.self l.m l.self
