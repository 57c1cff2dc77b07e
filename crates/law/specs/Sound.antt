-- What holds of every build between two calls, whatever its pool: the invariant of a build.
use Rattle.std.specs.Prelude.{◌≡◌, ℕ, ◌+◌, ◌-◌, ◌*◌, ◌<◌, ◌≤◌, Bool, true, false, cond, not, ◌&&◌, ◌⊎◌, List, length, ◌==◌, ◌≢◌, nat_eq, slice_index_or}
use Rattle.law.specs.Calls.{Status}
use Rattle.law.specs.Counts.{one_if, how_many}
use Rattle.pool.specs.Meaning.{sum_below}
use Rattle.rules.specs.Builds.{unbegun, is_waiting, is_running}
use Rattle.rules.specs.Builds.{Held}
use Rattle.rules.specs.Causes.{Ordered}
use Rattle.rules.specs.Lists.{is_some}
use Rattle.rules.specs.Plans.{Plan, is_make, needed}
use Rattle.rules.specs.declared.progress.Progress.{Progress}
use Rattle.rules.specs.declared.progress.State.{State}
use Rattle.rules.specs.declared.progress.State.TheVariants.{Waiting, Running, Good, Failed}

-- how far node n is, in a table of all nodes
abbrev pub entry : List Progress → ℕ → Progress
entry ns n = slice_index_or ns n unbegun

abbrev pub state_of : List Progress → ℕ → State
state_of ns n = (entry ns n).state

-- whether the node failed
abbrev pub is_failed : State → Bool
is_failed Waiting = false
is_failed Running = false
is_failed Good = false
is_failed (Failed c) = true

-- whether n is a child of make m
abbrev pub is_child : Plan → ℕ → ℕ → Bool
is_child t m n = not (n == 0) && t.make n == m

-- how many children of make m run
abbrev pub children_running : Plan → List Progress → ℕ → ℕ
children_running t ns m = sum_below (λ n. one_if (is_child t m n && is_running (state_of ns n))) t.nodes

-- how many tokens make m has in hand
abbrev pub tokens_with : ℕ → List Held → ℕ
tokens_with m ts = how_many (λ h. nat_eq h.by m) ts

-- n is a node of the tree below the top make
abbrev pub BelowTop : Plan → ℕ → Type 0
BelowTop t n = (0 < n) × (n < t.nodes)

-- some child of make m has not begun
abbrev pub HasWaiting : Plan → List Progress → ℕ → Type 0
HasWaiting t ns m = (n : ℕ) × BelowTop t n × (t.make n ≡ m) × (is_waiting (state_of ns n) ≡ true)

-- what the rules rely on of a tree
pub record Planned (t : Plan) : Type 0 where
  pub ordered : Ordered t
  -- a job has a step, a make a child
  pub sized : (n : ℕ) → n < t.nodes → is_make t n ≡ false → 0 < t.steps n
  pub fed : (m : ℕ) → m < t.nodes → is_make t m ≡ true → (m + 1 < t.nodes) × (t.make (m + 1) ≡ m)
  pub summed : t.all_steps ≡ sum_below t.steps t.nodes

-- The nodes and the tokens in hand fit together. While a halt is carried out (`halting`) makes are stopped that did not
-- fail; while a node ends, that node is `pending`.
pub record Shape (halting : Bool) (pending : ℕ) (t : Plan) (ns : List Progress) (ts : List Held) : Type 0 where
  pub planned : Planned t
  pub whole : length ns ≡ t.nodes
  -- the make of a running node is live
  pub lives : (n : ℕ) → BelowTop t n → is_running (state_of ns n) ≡ true → is_running (state_of ns (t.make n)) ≡ true
  -- the first running child of a make is in its implicit slot, and each further one has a token
  pub paid : (m : ℕ) → tokens_with m ts ≡ children_running t ns m - 1
  -- all children of a make that ended well did so too
  pub good : (n : ℕ) → BelowTop t n → state_of ns (t.make n) ≡ Good → state_of ns n ≡ Good
  -- the make of a failed node is marked
  pub failed : (n : ℕ) → BelowTop t n → is_failed (state_of ns n) ≡ true → is_some (entry ns (t.make n)).first_failed ≡ true
  -- a running job has steps left, one that ended well has none
  pub going : (n : ℕ) → n < t.nodes → is_make t n ≡ false → (n ≢ pending) → is_running (state_of ns n) ≡ true → (entry ns n).done < t.steps n
  pub full : (n : ℕ) → n < t.nodes → is_make t n ≡ false → state_of ns n ≡ Good → (entry ns n).done ≡ t.steps n
  -- a node that has not begun has done nothing, nor has any below it
  pub fresh : (n : ℕ) → is_waiting (state_of ns n) ≡ true → (entry ns n).done ≡ 0
  pub untouched : (n : ℕ) → BelowTop t n → is_waiting (state_of ns (t.make n)) ≡ true → is_waiting (state_of ns n) ≡ true
  -- until the finish only marked makes are stopped, and they have begun
  pub unstopped : halting ≡ false → is_running (state_of ns 0) ≡ true → (n : ℕ) → is_waiting (state_of ns n) ≡ true → (entry ns n).stopped ≡ false
  pub marked : halting ≡ false → is_running (state_of ns 0) ≡ true → (m : ℕ) → (entry ns m).stopped ≡ true → is_some (entry ns m).first_failed ≡ true
  -- a live make has a running child, or may still start one
  pub able : (m : ℕ) → m < t.nodes → is_make t m ≡ true → (m ≢ pending) → is_running (state_of ns m) ≡ true → (0 < children_running t ns m) ⊎ (((entry ns m).stopped ≡ false) × HasWaiting t ns m)

-- every live make has a running child
abbrev pub Busy : Plan → List Progress → Type 0
Busy t ns = (m : ℕ) → m < t.nodes → is_make t m ≡ true → is_running (state_of ns m) ≡ true → 0 < children_running t ns m

-- the steps that a node may still take
abbrev pub left_of : State → ℕ → ℕ → ℕ
left_of Waiting steps done = steps
left_of Running steps done = steps - done
left_of Good steps done = 0
left_of (Failed c) steps done = 0

-- the steps that may still be taken
abbrev pub steps_left : Plan → List Progress → ℕ
steps_left t ns = sum_below (λ n. left_of (state_of ns n) (t.steps n) (entry ns n).done) t.nodes

-- the most bytes that the start and the end of a node may still take: T, then K, F and R
abbrev pub bytes_of : State → ℕ
bytes_of Waiting = 12
bytes_of Running = 8
bytes_of Good = 0
bytes_of (Failed c) = 0

-- the node has not ended
abbrev pub unended : State → Bool
unended Waiting = true
unended Running = true
unended Good = false
unended (Failed c) = false

-- the most bytes that the build may still write: also S for each step, and H and D while the top make has not ended
abbrev pub bytes_left : Plan → List Progress → ℕ
bytes_left t ns = sum_below (λ n. bytes_of (state_of ns n)) t.nodes + 2 * steps_left t ns + cond (unended (state_of ns 0)) 3 0

-- what holds of every build that can be held
pub record Sound (s : Status) : Type 0 where
  pub shape : Shape false s.build.plan.nodes s.build.plan s.build.nodes s.build.tokens
  pub busy : Busy s.build.plan s.build.nodes
  -- what is written and what may still be written is no more than the schedule needs
  pub room : s.written + bytes_left s.build.plan s.build.nodes ≤ needed s.build.plan
