-- What holds of every build, on whichever pools its calls are made, and not only in a trace.
use Rattle.std.specs.Prelude.{◌≡◌, ℕ, ◌+◌, ◌≤◌, Bool, true, false, List, [], length, Result}
use Rattle.law.specs.Calls.{Status, Request, Called, Opened}
use Rattle.law.specs.Sound.{Sound}
use Rattle.pool.specs.Ways.{Ways}
use Rattle.rules.specs.Builds.{begun_on, finished, running_jobs}
use Rattle.rules.specs.Calls.{rounds_run}
use Rattle.rules.specs.Plans.{Plan, plan_of, needed}
use Rattle.rules.specs.Settling.{Store}
use Rattle.rules.specs.declared.refusal.Refusal.{Refusal}
use Rattle.tree.specs.Questions.{nodes_of}
use Rattle.tree.specs.declared.tree.Tree.{Tree}

-- a build that was never opened: every node waits, and nothing is written
abbrev pub unopened : Plan → Status
unopened t = record { build = begun_on t false; written = 0 }

pub record OfAnyBuild {P : Type 0} (w : Ways P) : Type 0 where
  -- a fresh build of every tree that can be held is sound, and every call leaves a sound build, accepted or refused
  pub fresh : (tree : Tree) → Sound (unopened (plan_of (nodes_of tree)))
  pub opens : (tree : Tree) (keep : Bool) (before after : Status) (p q : P) (old new : List ℕ) (r : Result ℕ Refusal) → Sound before → Opened w (plan_of (nodes_of tree)) keep before p old r after q new → Sound after
  pub calls : (c : Request) (before after : Status) (p q : P) (old new : List ℕ) (r : Result ℕ Refusal) → Sound before → Called w c before p old r after q new → Sound after
  -- the schedule never passes the needed length
  pub room : (s : Status) → Sound s → s.written ≤ needed s.build.plan
  -- until the finish one job more runs than tokens are in the makes' hands
  pub one_more : (s : Status) → Sound s → finished s.build ≡ false → length (running_jobs s.build) ≡ length s.build.tokens + 1
  -- rounds end: they come to the finish on every pool
  pub rounds : (store : Store P) (s : Status) (p : P) → Sound s → finished (rounds_run store (record { build = s.build; pool = p; records = [] })).build ≡ true
