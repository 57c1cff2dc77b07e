-- The law over traces: what a whole tree of makes and the tools beside it add up to.
use Rattle.std.specs.Prelude.{◌≡◌, ℕ, ◌+◌, ◌<◌, ◌≤◌, Bool, not, ◌⊎◌, List, [], ◌∷◌, ◌++◌, reverse, take, Some, None, Ok, Err, ◌≢◌}
use Rattle.law.specs.Calls.{Status, Opened}
use Rattle.law.specs.Counts.{one_if, how_many, takes, returns, begins, ends_well, runs, holds, makes_hold, all_held, jobs_running, finish_of, records_of, is_step_of, works, accepted, tools_hold, tools_held}
use Rattle.law.specs.Traces.{Event, opened, called, loaded, obtained, released, Moment, just_opened, Trace, InOneBuffer}
use Rattle.pool.specs.Meaning.{total}
use Rattle.pool.specs.Ways.{Ways}
use Rattle.rules.specs.Builds.{Build, running, waiting}
use Rattle.rules.specs.Causes.{Job}
use Rattle.rules.specs.Plans.{Plan, plan_of}
use Rattle.rules.specs.Settled.{NothingStarts}
use Rattle.schedule.specs.Reading.{division, all_of}
use Rattle.schedule.specs.declared.record.Record.{Record}
use Rattle.schedule.specs.declared.record.Record.TheVariants.{PutBack}
use Rattle.tree.specs.Questions.{nodes_of}
use Rattle.tree.specs.declared.tree.Tree.{Tree}

-- every return is of a byte that its make had, by the records before it, taken at least once more than returned
abbrev pub OwnReturns : List Record → Type 0
OwnReturns rs =
    (later : List Record) (m k : ℕ) (earlier : List Record) → rs ≡ later ++ PutBack m k ∷ earlier →
    how_many (returns m k) earlier < how_many (takes m k) earlier

-- the last call is an open, or an accepted step, kill, poll or halt
abbrev pub AcceptedLast : List Event → Type 0
AcceptedLast [] = ⊥
AcceptedLast (opened new ∷ es) = Unit {0}
AcceptedLast (called c (Ok n) new ∷ es) = Unit {0}
AcceptedLast (called c (Err e) new ∷ es) = ⊥
AcceptedLast (loaded x r ∷ es) = ⊥
AcceptedLast (obtained g ∷ es) = ⊥
AcceptedLast (released g r ∷ es) = ⊥

-- what the build says of node n is what the records say
pub record ToldState (b : Build) (n : ℕ) (rs : List Record) : Type 0 where
  pub on : running b n ≡ runs n rs
  pub begun : one_if (not (waiting b n)) ≡ how_many (begins n) rs

-- job n has exactly one start, and ended well after exactly its steps
pub record DoneOnce (t : Plan) (n : ℕ) (es : List Event) : Type 0 where
  pub start : how_many (begins n) (records_of es) ≡ 1
  pub end : 0 < how_many (ends_well n) (records_of es)
  pub steps : accepted (is_step_of n) es ≡ t.steps n

-- The law, for a build of the tree t at this moment; `opening` tells the tokens of each byte in the pool just before
-- the open.
pub record Law {P : Type 0} (w : Ways P) (t : Plan) (opening : ℕ → ℕ) (now : Moment P) : Type 0 where
  -- in the pool, held by makes and held by tools: together what was there at opening
  pub conservation : (k : ℕ) → (w.means now.pool).ins k + makes_hold t k (records_of now.calls) + tools_hold k now.calls ≡ opening k
  -- makes return only their own
  pub own : OwnReturns (records_of now.calls)
  -- until the finish one job more runs than makes hold tokens
  pub one_more : finish_of (records_of now.calls) ≡ None → jobs_running t (records_of now.calls) ≡ all_held t (records_of now.calls) + 1
  -- running jobs and tools never exceed the limit, one more than the tokens at opening
  pub within : jobs_running t (records_of now.calls) + tools_held now.calls ≤ total opening + 1
  -- a node below the top make runs and has begun in the build just as the records say
  pub told : (n : ℕ) → 0 < n → n < t.nodes → ToldState now.status.build n (records_of now.calls)
  -- after an accepted call of the build nothing is ready or nothing may start
  pub no_idle : AcceptedLast now.calls → ((w.means now.pool).ready ≡ 0) ⊎ NothingStarts now.status.build
  -- accepted steps and kills are no more than the steps of all jobs
  pub bounded : accepted works now.calls ≤ t.all_steps
  -- once finished no make holds anything; and unless it failed, every job started once and ended after its steps
  pub clean : (failed : ℕ) → finish_of (records_of now.calls) ≡ Some failed → ((m k : ℕ) → holds m k (records_of now.calls) ≡ 0) × ((failed ≢ 1) → (n : ℕ) → Job t n → DoneOnce t n now.calls)

-- It holds at every moment of every trace that begins with an accepted open of this tree on this pool.
abbrev pub LawFrom : {P : Type 0} → Ways P → Tree → P → Status → P → List ℕ → Type 0
LawFrom {P} w tree p s q buffer =
    (now : Moment P) → Trace w (just_opened s q buffer) now → Law w (plan_of (nodes_of tree)) (w.means p).ins now

-- At every moment of every such trace that was written into one buffer, which nothing else altered, what is written of it
-- reads back, record for record, as the records of all calls.
abbrev pub ReadsBackFrom : {P : Type 0} → Ways P → Status → P → List ℕ → Type 0
ReadsBackFrom {P} w s q first =
    (now : Moment P) (trace : Trace w (just_opened s q first) now) (buffer : List ℕ) → InOneBuffer first now trace buffer →
    division (take now.status.written buffer) 0 ≡ all_of 0 (reverse (records_of now.calls))

-- every accepted open of every tree that can be held, on every pool, begins only such traces
abbrev pub EveryTrace : {P : Type 0} → Ways P → Type 0
EveryTrace {P} w =
    (tree : Tree) (keep : Bool) (before after : Status) (p q : P) (old new : List ℕ) (n : ℕ) →
    Opened w (plan_of (nodes_of tree)) keep before p old (Ok n) after q new → LawFrom w tree p after q new × ReadsBackFrom w after q new
