-- How many bytes of the schedule a build may still write, and how many nodes it may still start and end.
use Rattle.std.specs.Prelude.{ℕ, ◌+◌, ◌-◌, ◌*◌, List, [], ◌∷◌}
use Rattle.rules.specs.Builds.{Build, at}
use Rattle.rules.specs.Plans.{Plan}
use Rattle.rules.specs.declared.progress.Progress.{Progress}
use Rattle.rules.specs.declared.progress.State.{State}
use Rattle.rules.specs.declared.progress.State.TheVariants.{Waiting, Running, Good, Failed}

-- the sum of f over these nodes, the first of which is node k
unfoldable pub sum_from : (ℕ → Progress → ℕ) → ℕ → List Progress → ℕ
sum_from f k [] = 0
sum_from f k (x ∷ xs) = f k x + sum_from f (k + 1) xs

-- 1 for a node that has not begun
abbrev pub unstarted : State → ℕ
unstarted Waiting = 1
unstarted Running = 0
unstarted Good = 0
unstarted (Failed c) = 0

-- 1 for a node that has not ended
abbrev pub unended : State → ℕ
unended Waiting = 1
unended Running = 1
unended Good = 0
unended (Failed c) = 0

-- how many nodes have not begun
abbrev pub to_start : List Progress → ℕ
to_start xs = sum_from (λ _ x. unstarted x.state) 0 xs

-- how many nodes have not ended
abbrev pub to_end : List Progress → ℕ
to_end xs = sum_from (λ _ x. unended x.state) 0 xs

-- the bytes for a node with so many steps left: at most 4 for its start, 2 for each step, and 8 for its end, which may
-- come by a kill and may bring a token back
abbrev pub bytes_left : State → ℕ → ℕ
bytes_left Waiting steps = 12 + 2 * steps
bytes_left Running steps = 8 + 2 * steps
bytes_left Good steps = 0
bytes_left (Failed c) steps = 0

abbrev pub node_room : Plan → ℕ → Progress → ℕ
node_room t k x = bytes_left x.state (t.steps k - x.done)

-- the bytes that the build may still write: for its nodes, and 2 for the finish
abbrev pub room : Build → ℕ
room b = sum_from (node_room b.plan) 0 b.nodes + 2 * unended (at b 0).state
