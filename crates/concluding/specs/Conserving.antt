-- What some calls in a row on a build that was just opened come to, on any pool.
use Rattle.std.specs.Prelude.{◌≡◌, ℕ, Bool, List, [], ◌∷◌, reverse, take, Some, None, Ok, Option, Result}
use Rattle.law.specs.Calls.{Status, Request, step, kill, poll, halt, Opened}
use Rattle.law.specs.Counts.{records_of}
use Rattle.law.specs.Law.{Law}
use Rattle.law.specs.Traces.{Event, opened, called, loaded, obtained, released, just_opened, Trace}
use Rattle.pool.specs.Ways.{Ways}
use Rattle.rules.specs.Plans.{plan_of}
use Rattle.schedule.specs.Reading.{division, all_of}
use Rattle.tool.specs.Grants.{Release}
use Rattle.tool.specs.declared.grants.Grant.{Grant}
use Rattle.tool.specs.declared.grants.Unreleased.{Unreleased}
use Rattle.tree.specs.Questions.{nodes_of}
use Rattle.tree.specs.declared.tree.Tree.{Tree}

-- a release of the grant led from p to q, accepted or refused; without a grant nothing happened
abbrev pub Brought : {P : Type 0} → Ways P → P → Option Grant → P → Type 0
Brought w p None q = q ≡ p
Brought w p (Some g) q = (r : Result Unit Unreleased) × Release w p g r q

-- what was asked of the build by these calls, in their order
abbrev pub requests : List Event → List Request
requests [] = []
requests (opened new ∷ es) = requests es
requests (called c r new ∷ es) = c ∷ requests es
requests (loaded x r ∷ es) = requests es
requests (obtained g ∷ es) = requests es
requests (released g r ∷ es) = requests es

-- The open of the tree on the pool p answered n. Calls then led to the build s, the pool q and the buffer `new`: of the
-- build a step, a kill, a poll and a halt, and between them those of a tool. The law holds of where they led, and what is
-- written of the buffer reads back as the records of all of them.
pub record Conserved {P : Type 0} (w : Ways P) (tree : Tree) (keep : Bool) (node n : ℕ) (before : Status) (p : P) (old : List ℕ) (s : Status) (q : P) (new : List ℕ) : Type 0 where
  -- just after the open
  pub start : Status
  pub start_pool : P
  pub start_buffer : List ℕ
  pub begun : Opened w (plan_of (nodes_of tree)) keep before p old (Ok n) start start_pool start_buffer
  -- the calls, the last one first, and the grants that tools then have in hand
  pub calls : List Event
  pub hands : List Grant
  pub trace : Trace w (just_opened start start_pool start_buffer) (record { status = s; pool = q; hands = hands; calls = calls })
  pub asked : requests calls ≡ halt ∷ poll ∷ kill node ∷ step node ∷ []
  -- in the pool, held by makes and held by tools are together what was there before the open, and the rest of the law
  pub law : Law w (plan_of (nodes_of tree)) (w.means p).ins (record { status = s; pool = q; hands = hands; calls = calls })
  pub back : division (take s.written new) 0 ≡ all_of 0 (reverse (records_of calls))
