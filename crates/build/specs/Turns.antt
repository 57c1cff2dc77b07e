-- What a search asks at one node.
use Rattle.std.specs.Prelude.{ℕ, Bool, not, ◌&&◌, Option, ◌==◌}
use Rattle.rules.specs.Builds.{Build, running, waiting, has_running}
use Rattle.rules.specs.Lists.{when}
use Rattle.rules.specs.Plans.{is_make}
use Rattle.rules.specs.Settling.{starts}
use Rattle.rules.specs.Startable.{startable}
use Rattle.rules.specs.Settling.{Start}

-- whether node k is a running child of make m
abbrev pub runs_under : Build → ℕ → ℕ → Bool
runs_under b m k = b.plan.make k == m && running b k

-- whether node k is a child of make m that has not begun
abbrev pub waits_under : Build → ℕ → ℕ → Bool
waits_under b m k = b.plan.make k == m && waiting b k

-- whether node k is a running job
abbrev pub runs_as_job : Build → ℕ → Bool
runs_as_job b k = running b k && not (is_make b.plan k)

-- the start that node m may make as a make
abbrev pub start_by : Build → ℕ → Option Start
start_by b m = when (is_make b.plan m) (λ _. starts m (startable b m))

-- the start that it may make in its implicit slot
abbrev pub slot_start_by : Build → ℕ → Option Start
slot_start_by b m = when (is_make b.plan m) (λ _. when (not (has_running b m)) (λ _. starts m (startable b m)))
