-- Why a node failed, by the records alone.
use Rattle.std.specs.Prelude.{◌≡◌, ℕ, ◌+◌, ◌<◌, Bool, true, false, cond, not, ◌&&◌, List, [], ◌∷◌, length, Some, None, Option, ◌==◌, slice_index_or}
use Rattle.rules.specs.Builds.{at, unbegun}
use Rattle.rules.specs.Calls.{open_run, step_run, kill_run, poll_run, halt_run, rounds_run}
use Rattle.rules.specs.Faults.{fault}
use Rattle.rules.specs.Lists.{or_else, when}
use Rattle.rules.specs.Plans.{Plan, is_make, plan_of}
use Rattle.rules.specs.Settling.{Store, Run}
use Rattle.rules.specs.declared.progress.Progress.{Progress}
use Rattle.rules.specs.declared.progress.State.TheVariants.{Failed}
use Rattle.schedule.specs.declared.cause.Cause.{Cause}
use Rattle.schedule.specs.declared.record.Record.{Record}
use Rattle.schedule.specs.declared.record.Record.TheVariants.{Open, StartInSlot, StartWithToken, Step, Kill, Halt, EndedWell, EndedFailed, PutBack, Finished}
use Rattle.tree.specs.Questions.{nodes_of}
use Rattle.tree.specs.declared.node.Kind.TheVariants as kinds
use Rattle.tree.specs.declared.tree.Tree.{Tree}

-- whether the record is a step of job n
abbrev pub is_step : ℕ → Record → Bool
is_step n (Open limit keep nodes) = false
is_step n (StartInSlot make child) = false
is_step n (StartWithToken make child token) = false
is_step n (Step job) = job == n
is_step n (Kill job) = false
is_step n Halt = false
is_step n (EndedWell node) = false
is_step n (EndedFailed node cause) = false
is_step n (PutBack make token) = false
is_step n (Finished failed) = false

-- how many steps of job n were recorded
abbrev pub steps_in : ℕ → List Record → ℕ
steps_in n [] = 0
steps_in n (x ∷ rs) = cond (is_step n x) 1 0 + steps_in n rs

-- the child of make m that the record ends as failed, if it does
abbrev pub failed_child : Plan → ℕ → Record → Option ℕ
failed_child t m (Open limit keep nodes) = None
failed_child t m (StartInSlot make child) = None
failed_child t m (StartWithToken make child token) = None
failed_child t m (Step job) = None
failed_child t m (Kill job) = None
failed_child t m Halt = None
failed_child t m (EndedWell node) = None
failed_child t m (EndedFailed node cause) = when (not (node == 0) && t.make node == m) (λ _. Some node)
failed_child t m (PutBack make token) = None
failed_child t m (Finished failed) = None

-- the child of make m that failed first in time; the records are given last first
abbrev pub first_failed_child : Plan → ℕ → List Record → Option ℕ
first_failed_child t m [] = None
first_failed_child t m (x ∷ rs) = or_else (first_failed_child t m rs) (λ _. failed_child t m x)

-- a halt is among the records
pub data HasHalt : List Record → Type 0 where
  here : {rs : List Record} → HasHalt (Halt ∷ rs)
  before : {x : Record} {rs : List Record} → HasHalt rs → HasHalt (x ∷ rs)

-- CauseOf t n c rs: behind the records rs, node n may end as failed for the cause of this number.
pub data CauseOf (t : Plan) (n : ℕ) : ℕ → List Record → Type 0 where
  -- 1, the script: a job that fails, directly behind the last of its steps
  by_script : {rs : List Record} → t.kind n ≡ kinds.Fail → steps_in n (Step n ∷ rs) ≡ t.steps n → CauseOf t n 1 (Step n ∷ rs)
  -- 2, a kill: directly behind it
  by_kill : {rs : List Record} → CauseOf t n 2 (Kill n ∷ rs)
  -- 3, a failed child: a make
  by_child : {rs : List Record} → is_make t n ≡ true → CauseOf t n 3 rs
  -- 4, a halt: a job, behind it
  by_halt : {rs : List Record} → is_make t n ≡ false → HasHalt rs → CauseOf t n 4 rs

-- what a record of a failed node owes
abbrev pub Caused : Plan → Record → List Record → Type 0
Caused t (Open limit keep nodes) rs = Unit {0}
Caused t (StartInSlot make child) rs = Unit {0}
Caused t (StartWithToken make child token) rs = Unit {0}
Caused t (Step job) rs = Unit {0}
Caused t (Kill job) rs = Unit {0}
Caused t Halt rs = Unit {0}
Caused t (EndedWell node) rs = Unit {0}
Caused t (EndedFailed node cause) rs = (node < t.nodes) × CauseOf t node cause rs
Caused t (PutBack make token) rs = Unit {0}
Caused t (Finished failed) rs = Unit {0}

abbrev pub AllCaused : Plan → List Record → Type 0
AllCaused t [] = Unit {0}
AllCaused t (x ∷ rs) = Caused t x rs × AllCaused t rs

-- The records tell what the nodes of a build know: the steps of each job, the child of each make that failed first in
-- time, and every cause is so.
pub record Told (t : Plan) (ns : List Progress) (rs : List Record) : Type 0 where
  pub whole : length ns ≡ t.nodes
  pub done : (n : ℕ) → (slice_index_or ns n unbegun).done ≡ steps_in n rs
  pub first : (m : ℕ) → (slice_index_or ns m unbegun).first_failed ≡ first_failed_child t m rs
  pub causes : AllCaused t rs

abbrev pub Tells : {P : Type 0} → Run P → Type 0
Tells r = Told r.build.plan r.build.nodes r.records

-- as every tree is: the first node is a make, and every other node belongs to a make before it
pub record Ordered (t : Plan) : Type 0 where
  pub some : 0 < t.nodes
  pub top : is_make t 0 ≡ true
  pub placed : (n : ℕ) → 0 < n → n < t.nodes → (t.make n < n) × (is_make t (t.make n) ≡ true)

-- every tree that can be held is so
abbrev pub TreesOrdered : Type 0
TreesOrdered = (t : Tree) → Ordered (plan_of (nodes_of t))

-- node n is a job of the tree
abbrev pub Job : Plan → ℕ → Type 0
Job t n = (n < t.nodes) × (is_make t n ≡ false)

-- so it is after every call on every pool
pub record TellsAll (P : Type 0) : Type 0 where
  pub opens : (store : Store P) (t : Plan) (keep : Bool) (tokens : ℕ) (p : P) → Ordered t → Tells (open_run store t keep tokens p)
  pub steps : (store : Store P) (n : ℕ) (r : Run P) → Ordered r.build.plan → Job r.build.plan n → Tells r → Tells (step_run store n r)
  pub kills : (store : Store P) (n : ℕ) (r : Run P) → Ordered r.build.plan → Job r.build.plan n → Tells r → Tells (kill_run store n r)
  pub polls : (store : Store P) (r : Run P) → Tells r → Tells (poll_run store r)
  pub halts : (store : Store P) (r : Run P) → Ordered r.build.plan → Tells r → Tells (halt_run store r)
  pub rounds : (store : Store P) (r : Run P) → Ordered r.build.plan → Tells r → Tells (rounds_run store r)

-- a failed make answers with the whole fault of the child that was first to fail
abbrev pub FirstFault : Type 0 → Type 0
FirstFault P =
    (r : Run P) → Ordered r.build.plan → Tells r → (m k : ℕ) (c : Cause) → m < r.build.plan.nodes →
    is_make r.build.plan m ≡ true → (at r.build m).state ≡ Failed c →
    first_failed_child r.build.plan m r.records ≡ Some k → fault r.build m ≡ fault r.build k
