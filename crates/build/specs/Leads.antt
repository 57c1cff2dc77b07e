-- What a part of a call did, as a part of a run of the rules: parts that follow one another are one part.
use Rattle.std.specs.Prelude.{◌≡◌, ℕ, List, [], ◌++◌, reverse}
use Rattle.law.specs.Answers.{Answers}
use Rattle.law.specs.Calls.{Status}
use Rattle.pool.specs.Chain.{Op, Did, Chain}
use Rattle.pool.specs.Ways.{Ways}
use Rattle.rules.specs.Builds.{Build}
use Rattle.rules.specs.Settling.{Run}
use Rattle.schedule.specs.Buffers.{Wrote}
use Rattle.schedule.specs.Records.{encoded}
use Rattle.schedule.specs.declared.record.Record.{Record}

-- a build with how much is written, its pool and its buffer
pub record Point (P : Type 0) : Type 0 where
  pub status : Status
  pub pool : P
  pub buffer : List ℕ

-- a build in a run of the rules: the answers to come, the operations so far and the records so far, the last one first
abbrev pub on : Build → List ℕ → List Op → List Record → Run Answers
on b coming asked records = record { build = b; pool = record { coming = coming; asked = asked }; records = records }

-- The code went from x to y while the rules went from f to g: with the answers that the pool gave, what f is at x is what
-- g is at y, whatever was before and whatever comes. The pool went by just the operations of that part, and its records,
-- and no other bytes, were written.
pub record Leads {P : Type 0} (w : Ways P) (f g : Run Answers → Run Answers) (x y : Point P) : Type 0 where
  pub answers : List ℕ
  pub asked : List Op
  pub records : List Record
  pub runs : (coming : List ℕ) (ops : List Op) (rs : List Record) → f (on x.status.build (answers ++ coming) ops rs) ≡ g (on y.status.build coming (asked ++ ops) (records ++ rs))
  pub pool : Chain (Did w) (reverse asked) x.pool y.pool
  pub wrote : Wrote x.buffer x.status.written (encoded (reverse records)) y.buffer y.status.written

-- The code went from x to the end y of the run f: no answers come behind those that the pool gave.
pub record Ends {P : Type 0} (w : Ways P) (f : Run Answers → Run Answers) (x y : Point P) : Type 0 where
  pub answers : List ℕ
  pub asked : List Op
  pub records : List Record
  pub runs : (ops : List Op) (rs : List Record) → f (on x.status.build answers ops rs) ≡ on y.status.build [] (asked ++ ops) (records ++ rs)
  pub pool : Chain (Did w) (reverse asked) x.pool y.pool
  pub wrote : Wrote x.buffer x.status.written (encoded (reverse records)) y.buffer y.status.written
