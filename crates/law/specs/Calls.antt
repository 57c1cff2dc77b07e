-- What each call of a build does: the build, the pool and the buffer before and after, and the result.
use Rattle.std.specs.Prelude.{◌≡◌, ℕ, Bool, List, [], reverse, length, Some, None, Ok, Err, Option, Result}
use Rattle.law.specs.Answers.{Answers, answering, unasked}
use Rattle.pool.specs.Chain.{Did, Chain}
use Rattle.pool.specs.Meaning.{total}
use Rattle.pool.specs.Ways.{Ways}
use Rattle.rules.specs.Builds.{Build}
use Rattle.rules.specs.Calls.{open_run, step_run, kill_run, poll_run, halt_run}
use Rattle.rules.specs.Plans.{Plan}
use Rattle.rules.specs.Refusing.{open_refusal, call_refusal, job_refusal, number, answer}
use Rattle.rules.specs.Settling.{Run}
use Rattle.rules.specs.declared.refusal.Refusal.{Refusal}
use Rattle.schedule.specs.Buffers.{Wrote}
use Rattle.schedule.specs.Records.{encoded}

-- a build, and how many bytes of its schedule are written
pub record Status : Type 0 where
  pub build : Build
  pub written : ℕ

-- A run of the rules took place: with the answers that the pool gave, it comes to the build `after`; the pool went from
-- p to q by just the takes and puts of the run, in their order; and the records of the run, and no other bytes, were
-- written into the buffer from the place `from` on.
pub record Ran {P : Type 0} (w : Ways P) (run : Answers → Run Answers) (from : ℕ) (p : P) (old : List ℕ) (after : Status) (q : P) (new : List ℕ) : Type 0 where
  pub answers : List ℕ
  pub build : after.build ≡ (run (unasked answers)).build
  pub used : (run (unasked answers)).pool.coming ≡ []
  pub pool : Chain (Did w) (reverse (run (unasked answers)).pool.asked) p q
  pub wrote : Wrote old from (encoded (reverse (run (unasked answers)).records)) new after.written

-- what may be asked of an opened build
pub data Request : Type 0 where
  step : ℕ → Request
  kill : ℕ → Request
  poll : Request
  halt : Request

-- which refusal applies, by what is out of each byte and how long the buffer is
abbrev pub refusal_of : Request → Build → (ℕ → ℕ) → ℕ → Option ℕ
refusal_of (step n) b outs buffer = job_refusal b outs buffer n
refusal_of (kill n) b outs buffer = job_refusal b outs buffer n
refusal_of poll b outs buffer = call_refusal b outs buffer
refusal_of halt b outs buffer = call_refusal b outs buffer

-- what the rules do with it
abbrev pub run_of : Request → Run Answers → Run Answers
run_of (step n) r = step_run answering n r
run_of (kill n) r = kill_run answering n r
run_of poll r = poll_run answering r
run_of halt r = halt_run answering r

-- Step, kill, poll and halt. Accepted: no refusal applies, the rules' run took place, and the answer is the number of
-- running jobs. Refused: that refusal applies, and build, pool and buffer are as they were.
abbrev pub Called : {P : Type 0} → Ways P → Request → Status → P → List ℕ → Result ℕ Refusal → Status → P → List ℕ → Type 0
Called w c s p old (Ok n) s' q new =
    (refusal_of c s.build (w.means p).outs (length old) ≡ None)
    × Ran w (λ a. run_of c (record { build = s.build; pool = a; records = [] })) s.written p old s' q new
    × (n ≡ answer s'.build)
Called w c s p old (Err e) s' q new =
    (refusal_of c s.build (w.means p).outs (length old) ≡ Some (number e)) × (s' ≡ s) × (q ≡ p) × (new ≡ old)

-- Open, of a tree on a pool. Accepted: as above, from the first byte of the buffer on, whatever the build was before.
abbrev pub Opened : {P : Type 0} → Ways P → Plan → Bool → Status → P → List ℕ → Result ℕ Refusal → Status → P → List ℕ → Type 0
Opened w t keep s p old (Ok n) s' q new =
    (open_refusal t (total (w.means p).outs) (length old) ≡ None)
    × Ran w (open_run answering t keep (total (w.means p).ins)) 0 p old s' q new
    × (n ≡ answer s'.build)
Opened w t keep s p old (Err e) s' q new =
    (open_refusal t (total (w.means p).outs) (length old) ≡ Some (number e)) × (s' ≡ s) × (q ≡ p) × (new ≡ old)
