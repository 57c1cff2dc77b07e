-- What may start, in the words of the rule: relations that the definitions of a search meet.
use Rattle.std.specs.Prelude.{◌≡◌, ℕ, ◌<◌, Bool, true, false, List, [], ◌∷◌, ◌++◌, Some, None}
use Rattle.rules.specs.Builds.{Build, at, running, waiting, has_running}
use Rattle.rules.specs.Plans.{Plan, is_make, children}
use Rattle.rules.specs.Settling.{Start, next_in_slot, next_with_token}
use Rattle.rules.specs.Startable.{startable}
use Rattle.rules.specs.declared.progress.State.{State}
use Rattle.rules.specs.declared.progress.State.TheVariants.{Waiting, Running, Good, Failed}

-- this holds of each
abbrev pub Each : {A : Type 0} → (A → Type 0) → List A → Type 0
Each P [] = Unit {0}
Each P (x ∷ xs) = P x × Each P xs

-- a node that ended, well or failed
abbrev pub is_ended : State → Bool
is_ended Waiting = false
is_ended Running = false
is_ended Good = true
is_ended (Failed c) = true

-- child c of make m may start: m is live and not stopped, c is the first child of m that has not begun,
-- and every child before the nearest wait up to c has ended
pub record Startable (b : Build) (m c : ℕ) : Type 0 where
  pub live : running b m ≡ true
  pub going : (at b m).stopped ≡ false
  pub before : List ℕ
  pub after : List ℕ
  pub child : children b.plan m ≡ before ++ c ∷ after
  pub first : Each (λ k. waiting b k ≡ false) before
  pub unbegun : waiting b c ≡ true
  pub waits : (front : List ℕ) (w : ℕ) (back : List ℕ) → before ++ c ∷ [] ≡ front ++ w ∷ back → b.plan.wait w ≡ true → Each (λ k. b.plan.wait k ≡ false) back → Each (λ k. is_ended (at b k).state ≡ true) front

-- node m is a make of the tree
abbrev pub Make : Plan → ℕ → Type 0
Make t m = (m < t.nodes) × (is_make t m ≡ true)

-- s is a start in an implicit slot: of the lowest make that has no running child and may start one
pub record InSlot (b : Build) (s : Start) : Type 0 where
  pub make : Make b.plan s.make
  pub idle : has_running b s.make ≡ false
  pub child : Startable b s.make s.child
  pub lowest : (m c : ℕ) → m < s.make → Make b.plan m → has_running b m ≡ false → Startable b m c → ⊥

-- s is a start with a token: of the lowest make that may start a child
pub record WithToken (b : Build) (s : Start) : Type 0 where
  pub make : Make b.plan s.make
  pub child : Startable b s.make s.child
  pub lowest : (m c : ℕ) → m < s.make → Make b.plan m → Startable b m c → ⊥

-- the search finds just the child that may start, and the makes are served as they should be
pub record Served (b : Build) : Type 0 where
  pub finds : (m c : ℕ) → startable b m ≡ Some c → Startable b m c
  pub found : (m c : ℕ) → Startable b m c → startable b m ≡ Some c
  pub slot : (s : Start) → next_in_slot b ≡ Some s → InSlot b s
  pub no_slot : next_in_slot b ≡ None → (m c : ℕ) → Make b.plan m → has_running b m ≡ false → Startable b m c → ⊥
  pub token : (s : Start) → next_with_token b ≡ Some s → WithToken b s
  pub no_token : next_with_token b ≡ None → (m c : ℕ) → Make b.plan m → Startable b m c → ⊥
