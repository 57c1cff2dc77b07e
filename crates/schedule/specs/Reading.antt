-- How a schedule divides into records. Assumes nothing.
use Rattle.std.specs.Prelude.{◌≡◌, ℕ, zero, suc, ◌+◌, cond, List, [], ◌∷◌, ◌++◌, map, length, take, drop, Some, None, Ok, Err, Option, Result, nat_le}
use Rattle.std.specs.Option.{option_map}
use Rattle.schedule.specs.declared.record.Record.{Record}
use Rattle.schedule.specs.declared.refusal.ReadRefusal.{ReadRefusal}
use Rattle.schedule.specs.declared.refusal.ReadRefusal.TheVariants.{UnknownKind, CutShort}
use Rattle.schedule.specs.Records.{Kind, kind_of, size, encoded}

-- how many bytes follow a kind byte at a place, where so many bytes are left behind it; or the refusal
abbrev pub length_of_kind : Option Kind → ℕ → ℕ → Result ℕ ReadRefusal
length_of_kind None left place = Err (UnknownKind place)
length_of_kind (Some k) left place = cond (nat_le k.follow left) (Ok k.follow) (Err (CutShort place))

-- the same by the kind byte
abbrev pub body_length : ℕ → ℕ → ℕ → Result ℕ ReadRefusal
body_length byte left place = length_of_kind (kind_of byte) left place

-- the record of a kind byte and a body
abbrev pub record_of : ℕ → List ℕ → Option Record
record_of byte body = option_map (λ k. k.filled body) (kind_of byte)

-- the place of a record's kind byte, and the record
abbrev pub Entry : Type 0
Entry = ℕ × Record

-- what stands at a place: a record, nothing since the schedule ends there, or a refusal
abbrev pub Found : Type 0
Found = Result (Option Entry) ReadRefusal

-- what stands at the place of a kind byte with these bytes behind it
abbrev pub found_of_kind : Option Kind → List ℕ → ℕ → Found
found_of_kind None rest place = Err (UnknownKind place)
found_of_kind (Some k) rest place =
    cond (nat_le k.follow (length rest)) (Ok (Some (place, k.filled (take k.follow rest)))) (Err (CutShort place))

-- what stands at a place from which the schedule goes on with these bytes
abbrev pub found : List ℕ → ℕ → Found
found [] place = Ok None
found (byte ∷ rest) place = found_of_kind (kind_of byte) rest place

-- the place behind what was found at a place
abbrev pub behind : ℕ → Found → ℕ
behind place (Ok None) = place
behind place (Ok (Some e)) = place + size e.1
behind place (Err refusal) = place

-- a whole reading: the records in order, and the refusal that it ends with unless it comes to the end
pub record Division : Type 0 where
  pub entries : List Entry
  pub stop : Option ReadRefusal

-- a reading that begins with what was found, and goes on in this way behind a record
abbrev pub begun : Found → (Record → Division) → Division
begun (Ok None) onward = record { entries = []; stop = None }
begun (Ok (Some e)) onward = record { entries = e ∷ (onward e.1).entries; stop = (onward e.1).stop }
begun (Err refusal) onward = record { entries = []; stop = Some refusal }

-- the reading from a place on, of at most so many records
abbrev pub divided : ℕ → List ℕ → ℕ → Division
divided zero rest place = record { entries = []; stop = None }
divided (suc n) rest place = begun (found rest place) (λ r. divided n (drop (size r) rest) (place + size r))

-- the reading of these bytes, the first of which has this place: a record takes at least one byte
abbrev pub division : List ℕ → ℕ → Division
division rest place = divided (length rest) rest place

-- records one behind the other from a place on, each with its place
abbrev pub placed : ℕ → List Record → List Entry
placed place [] = []
placed place (r ∷ rs) = (place, r) ∷ placed (place + size r) rs

-- the records of a reading, without their places
abbrev pub records_read : Division → List Record
records_read reading = map (λ e. e.1) reading.entries

-- the reading of whole records: each at its place, and then none
abbrev pub all_of : ℕ → List Record → Division
all_of place rs = record { entries = placed place rs; stop = None }

-- what is so of a schedule and the reading of it
pub record Faithful (schedule : List ℕ) (reading : Division) : Type 0 where
  -- written records read back, each at its place, and then none
  pub back : (rs : List Record) → schedule ≡ encoded rs → reading ≡ all_of 0 rs
  -- where a reading comes to the end, the schedule is the bytes of its records
  pub whole : reading.stop ≡ None → schedule ≡ encoded (records_read reading)
  -- no two lists of records have the same bytes
  pub apart : (rs others : List Record) → encoded rs ≡ encoded others → rs ≡ others

-- a record was written behind a schedule: where the old bytes up to a place are of some records, the new ones up to the other read as those records and this one
abbrev pub Behind : ℕ → List ℕ → Record → List ℕ → ℕ → Type 0
Behind from old r new to = (rs : List Record) → take from old ≡ encoded rs → division (take to new) 0 ≡ all_of 0 (rs ++ (r ∷ []))
