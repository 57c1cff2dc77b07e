-- Rounds: steps of the running jobs, until the finish.
use Rattle.std.specs.Prelude.{◌≡◌, ℕ, ◌+◌, true, false, List, [], ◌∷◌, length, Some, None, Ok, Err, Result}
use Rattle.law.specs.Calls.{Status, step, Called}
use Rattle.law.specs.Traces.{Moment, Trace, InOneBuffer}
use Rattle.pool.specs.Ways.{Ways}
use Rattle.rules.specs.Builds.{finished, running_jobs}
use Rattle.rules.specs.Refusing.{call_refusal, number}
use Rattle.rules.specs.declared.refusal.Refusal.{Refusal}

-- These jobs were stepped one after the other, and each step was accepted.
pub data Stepped {P : Type 0} (w : Ways P) : List ℕ → Status → P → List ℕ → Status → P → List ℕ → Type 0 where
  none : {s : Status} {p : P} {buffer : List ℕ} → Stepped w [] s p buffer s p buffer
  more : {n jobs : ℕ} {ns : List ℕ} {s s' s'' : Status} {p q r : P} {old mid new : List ℕ} → Called w (step n) s p old (Ok jobs) s' q mid → Stepped w ns s' q mid s'' r new → Stepped w (n ∷ ns) s p old s'' r new

-- Round by round, the jobs that run at its start were stepped in rising number, until the finish; so many steps in all.
pub data Rounds {P : Type 0} (w : Ways P) : ℕ → Status → P → List ℕ → Status → P → List ℕ → Type 0 where
  over : {s : Status} {p : P} {buffer : List ℕ} → finished s.build ≡ true → Rounds w 0 s p buffer s p buffer
  round : {n : ℕ} {s s' s'' : Status} {p q r : P} {old mid new : List ℕ} → finished s.build ≡ false → Stepped w (running_jobs s.build) s p old s' q mid → Rounds w n s' q mid s'' r new → Rounds w (length (running_jobs s.build) + n) s p old s'' r new

-- Accepted: no refusal applies to the first call, the rounds took place, and the answer is the number of steps. Refused:
-- that refusal applies, and build, pool and buffer are as they were.
abbrev pub RoundsCalled : {P : Type 0} → Ways P → Status → P → List ℕ → Result ℕ Refusal → Status → P → List ℕ → Type 0
RoundsCalled w s p old (Ok n) s' q new = (call_refusal s.build (w.means p).outs (length old) ≡ None) × Rounds w n s p old s' q new
RoundsCalled w s p old (Err e) s' q new = (call_refusal s.build (w.means p).outs (length old) ≡ Some (number e)) × (s' ≡ s) × (q ≡ p) × (new ≡ old)

-- Any trace that led to the place before leads on to the place behind, with the same grants in hand: so what holds after
-- every call of a trace holds there too. If it was written into one buffer, so is what lies behind.
abbrev pub TracesGoOn : {P : Type 0} → Ways P → Status → P → List ℕ → Status → P → List ℕ → Type 0
TracesGoOn {P} w s p old s' q new =
    (start now : Moment P) (trace : Trace w start now) → now.status ≡ s → now.pool ≡ p →
    (later : Moment P) × (behind : Trace w start later)
    × (later.status ≡ s') × (later.pool ≡ q) × (later.hands ≡ now.hands)
    × ((first : List ℕ) → InOneBuffer first now trace old → InOneBuffer first later behind new)
