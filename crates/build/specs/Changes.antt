-- What one step of the engine changes: the build, one record, and how much room is left.
use Rattle.std.specs.Prelude.{◌≡◌, ℕ, ◌+◌, ◌<◌, ◌≤◌, List}
use Rattle.build.specs.Models.{model, status}
use Rattle.build.specs.Leads.{Point}
use Rattle.build.specs.Rooms.{room}
use Rattle.build.specs.declared.work.Work.{Work}
use Rattle.rules.specs.Builds.{Build, at}
use Rattle.rules.specs.declared.progress.State.TheVariants.{Waiting}
use Rattle.rules.specs.Settling.{Start}
use Rattle.schedule.specs.Buffers.{Wrote}
use Rattle.schedule.specs.Records.{bytes}
use Rattle.schedule.specs.declared.record.Record.{Record}

-- the build at work, with its pool and its buffer
abbrev pub here : {P : Type 0} → Work → P → List ℕ → Point P
here e p buffer = record { status = status e; pool = p; buffer = buffer }

-- how far the schedule may still grow
abbrev pub reach : Work → ℕ
reach e = e.written + room (model e)

-- a record was written, and no more
pub record Noted (e : Work) (old : List ℕ) (r : Record) (e' : Work) (new : List ℕ) : Type 0 where
  pub tree : e'.tree ≡ e.tree
  pub keep : e'.keep ≡ e.keep
  pub nodes : e'.nodes ≡ e.nodes
  pub tokens : e'.tokens ≡ e.tokens
  pub losses : e'.losses ≡ e.losses
  pub wrote : Wrote old e.written (bytes r) new e'.written

-- make and child are in the tree, and the child has not begun
pub record MayStart (b : Build) (s : Start) : Type 0 where
  pub make : s.make < b.plan.nodes
  pub child : s.child < b.plan.nodes
  pub unbegun : (at b s.child).state ≡ Waiting

-- the build is now b, the record was written, and so many bytes of the room were not used
pub record Changed (e : Work) (old : List ℕ) (b : Build) (r : Record) (spare : ℕ) (e' : Work) (new : List ℕ) : Type 0 where
  pub build : model e' ≡ b
  pub wrote : Wrote old e.written (bytes r) new e'.written
  pub spent : reach e' + spare ≤ reach e

-- the build is now b, and nothing was written
pub record Remade (e : Work) (b : Build) (e' : Work) : Type 0 where
  pub build : model e' ≡ b
  pub written : e'.written ≡ e.written
  pub spent : reach e' ≤ reach e
