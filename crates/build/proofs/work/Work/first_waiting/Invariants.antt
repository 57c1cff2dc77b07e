use Rattle.std.proofs.Common.{◌≡◌, true}
use Rattle.rules.specs.Plans.{children}
use Rattle.rules.specs.Startable.{search_children}
use Rattle.build.specs.Models.{model}
use Rattle.build.proofs.Seeking.{sought}
use Rattle.build.proofs.work.Work.first_waiting.Given as goal

abbrev pub invariant-loop-k : goal.invariant-loop-k
invariant-loop-k l =
    let b = model l.self in sought b l.m l.free l.ended l.k ≡ search_children b true true (children b.plan l.m)
