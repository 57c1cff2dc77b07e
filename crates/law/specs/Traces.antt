-- A trace: any calls on a build that was just opened and on its pool, in any number and order.
use Rattle.std.specs.Prelude.{◌≡◌, ℕ, List, [], ◌∷◌, ◌++◌, Some, None, Ok, Err, Option, Result}
use Rattle.law.specs.Calls.{Status, Request, Called}
use Rattle.pool.specs.Ways.{Ways, Load}
use Rattle.pool.specs.declared.refusals.Refusal.{Refusal as PoolRefusal}
use Rattle.rules.specs.declared.refusal.Refusal.{Refusal}
use Rattle.schedule.specs.Reading.{division, records_read}
use Rattle.schedule.specs.declared.record.Record.{Record}
use Rattle.std.specs.List.{between}
use Rattle.tool.specs.Grants.{Obtain, Release}
use Rattle.tool.specs.declared.grants.Grant.{Grant}
use Rattle.tool.specs.declared.grants.Unreleased.{Unreleased}

-- a call, what it answered, and the records that it wrote
pub data Event : Type 0 where
  opened : List Record → Event
  called : Request → Result ℕ Refusal → List Record → Event
  loaded : ℕ → Result Unit PoolRefusal → Event
  obtained : Option Grant → Event
  released : Grant → Result Unit Unreleased → Event

-- the records that a call wrote, in their order: what stands in its buffer from the old to the new written length
abbrev pub wrote_records : ℕ → ℕ → List ℕ → List Record
wrote_records from to buffer = records_read (division (between from to buffer) 0)

-- the build, the pool, the grants that tools have in hand, and the calls so far, the last one first
pub record Moment (P : Type 0) : Type 0 where
  pub status : Status
  pub pool : P
  pub hands : List Grant
  pub calls : List Event

-- just after an open that left this build, this pool and this buffer
abbrev pub just_opened : {P : Type 0} → Status → P → List ℕ → Moment P
just_opened s p buffer = record { status = s; pool = p; hands = []; calls = opened (wrote_records 0 s.written buffer) ∷ [] }

-- one call of the build later
abbrev pub after_call : {P : Type 0} → Moment P → Request → Result ℕ Refusal → Status → P → List ℕ → Moment P
after_call now c r s p buffer = record {
  status = s;
  pool = p;
  hands = now.hands;
  calls = called c r (wrote_records now.status.written s.written buffer) ∷ now.calls;
}

-- one call on the pool later, with these grants then in hand
abbrev pub after_event : {P : Type 0} → Moment P → Event → List Grant → P → Moment P
after_event now e hands p = record { status = now.status; pool = p; hands = hands; calls = e ∷ now.calls }

-- a grant that was obtained, if any, is in hand
abbrev pub taken_up : Option Grant → List Grant → List Grant
taken_up None hands = hands
taken_up (Some g) hands = g ∷ hands

-- a grant that was released is in hand no more; one whose release was refused still is
abbrev pub laid_down : Result Unit Unreleased → List Grant → Grant → List Grant → List Grant
laid_down (Ok _) front g back = front ++ back
laid_down (Err e) front g back = front ++ g ∷ back

-- Calls lead from the moment `start` to a later one. The buffer of a call may be another one each time.
pub data Trace {P : Type 0} (w : Ways P) (start : Moment P) : Moment P → Type 0 where
  begin : Trace w start start
  call : {now : Moment P} → Trace w start now → (c : Request) (r : Result ℕ Refusal) (s : Status) (q : P) (old new : List ℕ) → Called w c now.status now.pool old r s q new → Trace w start (after_call now c r s q new)
  load : {now : Moment P} → Trace w start now → (x : ℕ) (r : Result Unit PoolRefusal) (q : P) → Load w now.pool x r q → Trace w start (after_event now (loaded x r) now.hands q)
  obtain : {now : Moment P} → Trace w start now → (g : Option Grant) (q : P) → Obtain w now.pool g q → Trace w start (after_event now (obtained g) (taken_up g now.hands) q)
  -- only a grant in hand can be released
  release : {now : Moment P} → Trace w start now → (front : List Grant) (g : Grant) (back : List Grant) → now.hands ≡ front ++ g ∷ back → (r : Result Unit Unreleased) (q : P) → Release w now.pool g r q → Trace w start (after_event now (released g r) (laid_down r front g back) q)

-- All calls of the trace were handed one and the same buffer, which nothing else altered: `first` just after the open, and
-- the last one now.
pub data InOneBuffer {P : Type 0} {w : Ways P} {start : Moment P} (first : List ℕ) : (now : Moment P) → Trace w start now → List ℕ → Type 0 where
  at_open : InOneBuffer first start begin first
  by_call : (now : Moment P) (t : Trace w start now) (c : Request) (r : Result ℕ Refusal) (s : Status) (q : P) (old new : List ℕ) (d : Called w c now.status now.pool old r s q new) → InOneBuffer first now t old → InOneBuffer first (after_call now c r s q new) (call t c r s q old new d) new
  by_load : (now : Moment P) (t : Trace w start now) (buffer : List ℕ) (x : ℕ) (r : Result Unit PoolRefusal) (q : P) (d : Load w now.pool x r q) → InOneBuffer first now t buffer → InOneBuffer first (after_event now (loaded x r) now.hands q) (load t x r q d) buffer
  by_obtain : (now : Moment P) (t : Trace w start now) (buffer : List ℕ) (g : Option Grant) (q : P) (d : Obtain w now.pool g q) → InOneBuffer first now t buffer → InOneBuffer first (after_event now (obtained g) (taken_up g now.hands) q) (obtain t g q d) buffer
  by_release : (now : Moment P) (t : Trace w start now) (buffer : List ℕ) (front : List Grant) (g : Grant) (back : List Grant) (held : now.hands ≡ front ++ g ∷ back) (r : Result Unit Unreleased) (q : P) (d : Release w now.pool g r q) → InOneBuffer first now t buffer → InOneBuffer first (after_event now (released g r) (laid_down r front g back) q) (release t front g back held r q d) buffer
