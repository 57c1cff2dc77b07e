-- A node that ends, its record, and its make.
use Rattle.std.specs.Prelude.{ℕ, List, Ok, Err, Result, slice_set}
use Rattle.build.specs.Hands.{own_bytes}
use Rattle.rules.specs.Builds.{Build, Held, Loss, at, with_node, with_state}
use Rattle.rules.specs.Ending.{marked, noted_loss}
use Rattle.rules.specs.Events.{state_of}
use Rattle.rules.specs.Plans.{Plan, is_make}
use Rattle.schedule.specs.Causes.{cause_number}
use Rattle.schedule.specs.declared.cause.Cause.{Cause}
use Rattle.schedule.specs.declared.record.Record.{Record}
use Rattle.schedule.specs.declared.record.Record.TheVariants.{EndedWell, EndedFailed}

-- what is noted when node n ends so: for a job that fails the tokens of its make
abbrev pub noted_at : Result Unit Cause → ℕ → Plan → List Held → List Loss → List Loss
noted_at (Ok _) n t hs ls = ls
noted_at (Err c) n t hs ls = noted_loss (is_make t n) n (own_bytes (t.make n) hs) ls

-- the build in which node n has ended so
abbrev pub ended_build : Result Unit Cause → ℕ → Build → Build
ended_build how n b = record {
  plan = b.plan;
  keep = b.keep;
  nodes = slice_set b.nodes n (with_state (at b n) (state_of how));
  tokens = b.tokens;
  losses = noted_at how n b.plan b.tokens b.losses;
}

-- its record
abbrev pub ended_record : Result Unit Cause → ℕ → Record
ended_record (Ok _) n = EndedWell n
ended_record (Err c) n = EndedFailed n (cause_number c)

-- the build in which make m is marked, if its child n ended as failed
abbrev pub marked_build : Result Unit Cause → ℕ → ℕ → Build → Build
marked_build (Ok _) m n b = b
marked_build (Err c) m n b = with_node b m (marked b.keep n (at b m))
