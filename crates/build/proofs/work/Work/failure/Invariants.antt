use Rattle.std.proofs.Common.{◌≡◌}
use Rattle.rules.specs.Faults.{fault_by}
use Rattle.build.specs.Models.{model}
use Rattle.build.proofs.work.Work.failure.Given as goal

abbrev pub invariant-loop-turns : goal.invariant-loop-turns
invariant-loop-turns l = let b = model l.self in fault_by b l._turns l.k ≡ fault_by b b.plan.nodes l.n
