use Rattle.build.proofs.work.Work.+end.Given as goal

abbrev pub decreases-end : goal.decreases-end
decreases-end g l = l.end.node
