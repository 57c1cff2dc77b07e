-- Traces that are computed: each call is done on a pool that can be computed with, and what the call must meet is tested.
use Rattle.std.proofs.Common.{◌≡◌, ℕ, suc, ◌+◌, ◌≤◌, Bool, true, false, T, eqb, leb, List, [], ◌∷◌, map, reverse, length, replicate, Some, None, Ok, Err, Option, refl, ap, eqb→eq, leb→le}
use Rattle.law.specs.Answers.{Answers, answering, unasked}
use Rattle.law.specs.Calls.{Status, Ran, Request, refusal_of, run_of}
use Rattle.law.specs.Counts.{records_of}
use Rattle.worked_traces.specs.Shown.{Begun, bare, Shows}
use Rattle.law.specs.Traces.{Event, opened, Moment, just_opened, after_call, after_event, Trace, call, load, obtain, release, begin, loaded, obtained, released}
use Rattle.pool.specs.Chain.{Op, took_none, took, put_back, Did, Chain}
use Rattle.pool.specs.Chain as chain
use Rattle.pool.specs.Meaning.{total, highest_reading}
use Rattle.pool.specs.Ways.{Ways}
use Rattle.pool.specs.declared.refusals.Refusal.TheVariants.{ReadingTooHigh}
use Rattle.rules.specs.Builds.{begun_on}
use Rattle.rules.specs.Calls.{open_run}
use Rattle.rules.specs.Cases.{printed_from}
use Rattle.rules.specs.Plans.{Plan}
use Rattle.rules.specs.Refusing.{open_refusal, number, answer}
use Rattle.rules.specs.Settling.{Run}
use Rattle.rules.specs.declared.refusal.Refusal.{Refusal}
use Rattle.schedule.specs.Buffers.{overlaid}
use Rattle.schedule.specs.Records.{encoded}
use Rattle.tool.specs.declared.grants.Grant.{Grant}

-- go on with what there is
abbrev pub go_on : {A B : Type 0} → Option A → (A → Option B) → Option B
go_on None f = None
go_on (Some a) f = f a

-- what is so of what is there
abbrev pub IfThere : {A : Type 0} → (A → Type 0) → Option A → Type 0
IfThere Q None = ⊥
IfThere Q (Some a) = Q a

-- then something is there of which it is so
pub there : {A : Type 0} (Q : A → Type 0) (o : Option A) → IfThere Q o → (a : A) × Q a
there Q None h = absurd h
there Q (Some a) h = (a, h)

-- a test, and with it what it shows: that it is passed
abbrev pub so? : (t : Bool) → Option (T t)
so? true = Some tt
so? false = None

-- that two numbers are the same
abbrev pub same? : (m n : ℕ) → Option (m ≡ n)
same? m n = go_on (so? (eqb m n)) (λ t. Some (eqb→eq m n t))

-- that one is at most the other
abbrev pub at_most? : (m n : ℕ) → Option (m ≤ n)
at_most? m n = go_on (so? (leb m n)) (λ t. Some (leb→le m n t))

-- that a list is empty
abbrev pub empty? : {A : Type 0} (l : List A) → Option (l ≡ [])
empty? [] = Some refl
empty? (x ∷ xs) = None

-- that it has a first
abbrev pub first? : {A : Type 0} (l : List A) → Option ((x : A) × (xs : List A) × (l ≡ x ∷ xs))
first? [] = None
first? (x ∷ xs) = Some (x, xs, refl)

-- that there is no answer
abbrev pub none? : (o : Option ℕ) → Option (o ≡ None)
none? None = Some refl
none? (Some n) = None

-- that this is the answer
abbrev pub number? : (o : Option ℕ) (n : ℕ) → Option (o ≡ Some n)
number? None n = None
number? (Some m) n = go_on (same? m n) (λ e. Some (ap Some e))

-- a pool that can be computed with: a take of this byte, a put and a reading, where they can be done
pub record Player {P : Type 0} (w : Ways P) : Type 0 where
  pub give : (b : ℕ) (p : P) → Option ((q : P) × w.gave p b q)
  pub back : (b : ℕ) (p : P) → Option ((q : P) × w.back p b q)
  pub hear : (x : ℕ) (p : P) → Option ((q : P) × w.heard p x q)

-- what a player does next: an accepted call with the tokens that it takes, a refused one with so long a buffer, a
-- reading, one that is refused, a token obtained, none obtained, and the release of the grant that was obtained last
pub data Act : Type 0 where
  does : Request → List ℕ → Act
  fails : Request → Refusal → ℕ → Act
  hears : ℕ → Act
  unheard : ℕ → Act
  gets : ℕ → Act
  gets_none : Act
  lays_down : Act

-- a buffer of so many bytes
abbrev pub blank : ℕ → List ℕ
blank n = replicate n 0

module _ {P : Type 0} {w : Ways P} (player : Player w) where
  -- one operation on the pool
  abbrev pub once : (o : Op) (p : P) → Option ((q : P) × Did w o p q)
  once took_none p = go_on (same? (w.means p).ready 0) (λ e. Some (p, (e, refl)))
  once (took b) p = player.give b p
  once (put_back b) p = player.back b p
  once (chain.loaded x) p = player.hear x p

  -- one after the other
  abbrev pub walk : (os : List Op) (p : P) → Option ((q : P) × Chain (Did w) os p q)
  walk [] p = Some (p, refl)
  walk (o ∷ os) p = go_on (once o p) (λ m. go_on (walk os m.0) (λ r. Some (r.0, (m.0, m.1, r.1))))

  -- a run of the rules with these answers, its buffer after it
  abbrev pub play_run : (run : Answers → Run Answers) (from : ℕ) (p : P) (old answers : List ℕ) → Option ((s : Status) × (q : P) × (new : List ℕ) × Ran w run from p old s q new)
  play_run run from p old answers =
      let r = run (unasked answers) in
      let added = encoded (reverse r.records) in
      let to = from + length added in
      go_on (empty? r.pool.coming) λ used.
      go_on (walk (reverse r.pool.asked) p) λ led.
      go_on (at_most? to (length old)) λ room.
      Some (record { build = r.build; written = to }, led.0, overlaid old from added, record { answers = answers; build = refl; used = used; pool = led.1; wrote = record { end = refl; room = room; after = refl } })

  -- an open with these answers, in the place of a build that has not begun
  abbrev pub play_open : (t : Plan) (keep : Bool) (p : P) (answers : List ℕ) → Option (Begun w t keep p)
  play_open t keep p answers =
      let old = blank 105 in
      go_on (none? (open_refusal t (total (w.means p).outs) (length old))) λ free.
      go_on (play_run (open_run answering t keep (total (w.means p).ins)) 0 p old answers) λ r.
      Some (record { before = record { build = begun_on t keep; written = 0 }; after = r.0; pool = r.1; old = old; new = r.2; answer = answer r.0.build; accepted = (free, r.3, refl) })

  module _ (start : Moment P) where
    -- a moment that is reached
    abbrev pub Reached : Type 0
    Reached = (now : Moment P) × Trace w start now

    -- one more call from a moment that was reached
    abbrev pub play_one : Act → Reached → Option Reached
    play_one (does c answers) m =
        let now = m.0 in
        let old = blank 105 in
        go_on (none? (refusal_of c now.status.build (w.means now.pool).outs (length old))) λ free.
        go_on (play_run (λ a. run_of c (record { build = now.status.build; pool = a; records = [] })) now.status.written now.pool old answers) λ r.
        Some (after_call now c (Ok (answer r.0.build)) r.0 r.1 r.2, call m.1 c (Ok (answer r.0.build)) r.0 r.1 old r.2 (free, r.3, refl))
    play_one (fails c e long) m =
        let now = m.0 in
        go_on (number? (refusal_of c now.status.build (w.means now.pool).outs (length (blank long))) (number e)) λ why.
        Some (after_call now c (Err e) now.status now.pool (blank long), call m.1 c (Err e) now.status now.pool (blank long) (blank long) (why, refl, refl, refl))
    play_one (hears x) m =
        let now = m.0 in
        go_on (at_most? x highest_reading) λ low.
        go_on (player.hear x now.pool) λ q.
        Some (after_event now (loaded x (Ok tt)) now.hands q.0, load m.1 x (Ok tt) q.0 (low, q.1))
    play_one (unheard x) m =
        let now = m.0 in
        go_on (at_most? (suc highest_reading) x) λ high.
        Some (after_event now (loaded x (Err ReadingTooHigh)) now.hands now.pool, load m.1 x (Err ReadingTooHigh) now.pool (refl, high, refl))
    play_one (gets b) m =
        let now = m.0 in
        let g : Grant = record { byte = b } in
        go_on (player.give b now.pool) λ q.
        Some (after_event now (obtained (Some g)) (g ∷ now.hands) q.0, obtain m.1 (Some g) q.0 q.1)
    play_one gets_none m =
        let now = m.0 in
        go_on (same? (w.means now.pool).ready 0) λ nil.
        Some (after_event now (obtained None) now.hands now.pool, obtain m.1 None now.pool (nil, refl))
    play_one lays_down m =
        let now = m.0 in
        go_on (first? now.hands) λ f.
        go_on (player.back f.0.byte now.pool) λ q.
        Some (after_event now (released f.0 (Ok tt)) f.1 q.0, release m.1 [] f.0 f.1 f.2 (Ok tt) q.0 q.1)

    -- one after the other
    abbrev pub play_on : List Act → Reached → Option Reached
    play_on [] m = Some m
    play_on (a ∷ rest) m = go_on (play_one a m) (play_on rest)

  -- an open and what is done after it
  abbrev pub play : (t : Plan) (keep : Bool) (p : P) (answers : List ℕ) → List Act → Option ((b : Begun w t keep p) × Reached (just_opened b.after b.pool b.new))
  play t keep p answers acts =
      go_on (play_open t keep p answers) λ b.
      let start = just_opened b.after b.pool b.new in
      go_on (play_on start acts (start, begin)) λ m. Some (b, m)

  -- what is yet to be seen of a trace that was computed: its calls and its lines
  abbrev pub Told : (t : Plan) (keep : Bool) (p : P) → List Event → List ℕ → (b : Begun w t keep p) × Reached (just_opened b.after b.pool b.new) → Type 0
  Told t keep p calls text r =
      (map bare (reverse r.1.0.calls) ≡ opened [] ∷ calls) × (printed_from (reverse (records_of r.1.0.calls)) ≡ text)

  -- then it shows them
  pub shows : (t : Plan) (keep : Bool) (p : P) (answers : List ℕ) (acts : List Act) {calls : List Event} {text : List ℕ} → IfThere (Told t keep p calls text) (play t keep p answers acts) → Shows w t keep p calls text
  shows t keep p answers acts {calls} {text} h =
      let r = there (Told t keep p calls text) (play t keep p answers acts) h in
      record { begun = r.0.0; now = r.0.1.0; trace = r.0.1.1; named = r.1.0; shown = r.1.1 }
