-- What every build keeps between two calls, fact by fact.
use Rattle.std.specs.Prelude.{◌≡◌, ℕ, ◌+◌, ◌-◌, ◌<◌, ◌≤◌, Bool, true, false}
use Rattle.build.specs.Models.{model}
use Rattle.build.specs.declared.work.Work.{Work}
use Rattle.law.specs.Sound.{entry, state_of, is_failed, children_running, tokens_with, BelowTop, Busy, bytes_left}
use Rattle.rules.specs.Builds.{is_waiting, is_running}
use Rattle.rules.specs.Lists.{is_some}
use Rattle.rules.specs.Plans.{is_make, needed}
use Rattle.rules.specs.declared.progress.State.{State}
use Rattle.rules.specs.declared.progress.State.TheVariants.{Waiting, Running, Good, Failed}

-- the make of a running node is live
abbrev pub Lives : Work → Type 0
Lives e = (n : ℕ) → BelowTop (model e).plan n → is_running (state_of (model e).nodes n) ≡ true → is_running (state_of (model e).nodes ((model e).plan.make n)) ≡ true

-- each running child of a make but the first has a token
abbrev pub Paid : Work → Type 0
Paid e = (m : ℕ) → tokens_with m (model e).tokens ≡ children_running (model e).plan (model e).nodes m - 1

-- every live make has a running child
abbrev pub Works : Work → Type 0
Works e = Busy (model e).plan (model e).nodes

-- whether the node ended well
abbrev pub is_good : State → Bool
is_good Waiting = false
is_good Running = false
is_good Good = true
is_good (Failed c) = false

-- all children of a make that ended well did so too
abbrev pub AllGood : Work → Type 0
AllGood e = (n : ℕ) → BelowTop (model e).plan n → is_good (state_of (model e).nodes ((model e).plan.make n)) ≡ true → is_good (state_of (model e).nodes n) ≡ true

-- the make of a failed node is marked
abbrev pub Blamed : Work → Type 0
Blamed e = (n : ℕ) → BelowTop (model e).plan n → is_failed (state_of (model e).nodes n) ≡ true → is_some (entry (model e).nodes ((model e).plan.make n)).first_failed ≡ true

-- a running job has steps left
abbrev pub GoesOn : Work → Type 0
GoesOn e = (n : ℕ) → n < (model e).plan.nodes → is_make (model e).plan n ≡ false → is_running (state_of (model e).nodes n) ≡ true → (entry (model e).nodes n).done < (model e).plan.steps n

-- one that ended well has none
abbrev pub AllDone : Work → Type 0
AllDone e = (n : ℕ) → (n < (model e).plan.nodes) × (is_make (model e).plan n ≡ false) × (is_good (state_of (model e).nodes n) ≡ true) → (entry (model e).nodes n).done ≡ (model e).plan.steps n

-- a node that has not begun has done nothing, nor has any below it
abbrev pub Idles : Work → Type 0
Idles e = (n : ℕ) → is_waiting (state_of (model e).nodes n) ≡ true → (entry (model e).nodes n).done ≡ 0

abbrev pub Untouched : Work → Type 0
Untouched e = (n : ℕ) → BelowTop (model e).plan n → is_waiting (state_of (model e).nodes ((model e).plan.make n)) ≡ true → is_waiting (state_of (model e).nodes n) ≡ true

-- until the finish only marked makes are stopped, and they have begun
abbrev pub Unstopped : Work → Type 0
Unstopped e = is_running (state_of (model e).nodes 0) ≡ true → (n : ℕ) → is_waiting (state_of (model e).nodes n) ≡ true → (entry (model e).nodes n).stopped ≡ false

abbrev pub StoppedWhy : Work → Type 0
StoppedWhy e = is_running (state_of (model e).nodes 0) ≡ true → (m : ℕ) → (entry (model e).nodes m).stopped ≡ true → is_some (entry (model e).nodes m).first_failed ≡ true

-- what is written and may still be written has room
abbrev pub Roomy : Work → Type 0
Roomy e = e.written + bytes_left (model e).plan (model e).nodes ≤ needed (model e).plan
