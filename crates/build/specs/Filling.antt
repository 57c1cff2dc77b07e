-- A place for a fault, and what the question for a fault leaves in it.
use Rattle.std.specs.Prelude.{◌≡◌, ℕ, Bool, true, false, [], Some, None, Ok, Err, vec_items, Result}
use Rattle.build.specs.declared.faults.Failure.{Failure}
use Rattle.build.specs.declared.faults.Fault.{Fault}
use Rattle.rules.specs.Builds.{Build, at}
use Rattle.rules.specs.Faults as rules
use Rattle.schedule.specs.declared.cause.Cause.TheVariants.{Script}
use Rattle.tree.specs.declared.questions.Unanswered.{Unanswered}
use Rattle.tree.specs.declared.questions.Unanswered.TheVariants.{NotInTree, NoMemory}

-- the fault that stands in a place
abbrev pub shown_fault : Fault → rules.Fault
shown_fault f = record { cause = f.cause; node = f.node; level = f.level; done = f.done; tokens = vec_items f.tokens }

-- what stands in a new place
abbrev pub no_fault : rules.Fault
no_fault = record { cause = Script; node = 0; level = 0; done = 0; tokens = [] }

-- the fault of a job that failed for this cause
abbrev pub fault_from : Build → Failure → rules.Fault
fault_from b f = record {
  cause = f.cause;
  node = f.job;
  level = b.plan.level f.job;
  done = (at b f.job).done;
  tokens = rules.tokens_at f.job b.losses;
}

-- the place now holds the fault of node n; or there is none, n is not in the tree, or memory is wanting for the fault that
-- there is: then the place is as it was
abbrev pub Filled : Build → ℕ → Fault → Result Bool Unanswered → Fault → Type 0
Filled b n old (Ok true) new = rules.fault b n ≡ Ok (Some (shown_fault new))
Filled b n old (Ok false) new = (rules.fault b n ≡ Ok None) × (new ≡ old)
Filled b n old (Err NotInTree) new = (rules.fault b n ≡ Err 21) × (new ≡ old)
Filled b n old (Err NoMemory) new = ((x : rules.Fault) × (rules.fault b n ≡ Ok (Some x))) × (new ≡ old)
