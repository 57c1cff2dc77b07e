-- The fault of a failed node.
use Rattle.std.specs.Prelude.{ℕ, zero, suc, List, [], ◌∷◌, Some, None, Ok, Err, Option, Result, ◌==◌, nat_lt}
use Rattle.rules.specs.Builds.{Build, Loss, at}
use Rattle.rules.specs.Lists.{if_so}
use Rattle.rules.specs.Plans.{is_make}
use Rattle.rules.specs.declared.progress.State.{State}
use Rattle.rules.specs.declared.progress.State.TheVariants.{Waiting, Running, Good, Failed}
use Rattle.schedule.specs.declared.cause.Cause.{Cause}

-- why a job failed, which job, its level, its steps, and the tokens that its make held just before, oldest first
pub record Fault : Type 0 where
  pub cause : Cause
  pub node : ℕ
  pub level : ℕ
  pub done : ℕ
  pub tokens : List ℕ

-- the tokens that were noted for the job
abbrev pub tokens_at : ℕ → List Loss → List ℕ
tokens_at n [] = []
tokens_at n (l ∷ ls) = if_so (l.job == n) (λ _. l.tokens) (λ _. tokens_at n ls)

-- of a failed make the fault of its child that failed first
abbrev pub of_child : Option ℕ → (ℕ → Option Fault) → Option Fault
of_child None onward = None
of_child (Some k) onward = onward k

abbrev pub fault_in : State → Build → ℕ → (ℕ → Option Fault) → Option Fault
fault_in Waiting b n onward = None
fault_in Running b n onward = None
fault_in Good b n onward = None
fault_in (Failed c) b n onward =
    if_so (is_make b.plan n) (λ _. of_child (at b n).first_failed onward)
    (λ _. Some (record { cause = c; node = n; level = b.plan.level n; done = (at b n).done; tokens = tokens_at n b.losses }))

-- down to a job, through so many makes at most
abbrev pub fault_by : Build → ℕ → ℕ → Option Fault
fault_by b zero n = None
fault_by b (suc fuel) n = fault_in (at b n).state b n (fault_by b fuel)

-- the fault of node n, none for a node that did not fail; 21 for a number that is not in the tree
abbrev pub fault : Build → ℕ → Result (Option Fault) ℕ
fault b n = if_so (nat_lt n b.plan.nodes) (λ _. Ok (fault_by b b.plan.nodes n)) (λ _. Err 21)
