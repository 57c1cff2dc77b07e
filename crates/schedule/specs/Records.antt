-- The format: the bytes of a record, and the records one behind the other. Assumes nothing.
use Rattle.std.specs.Prelude.{ℕ, cond, List, [], ◌∷◌, length, Some, None, Option, ◌==◌, slice_index}
use Rattle.std.specs.List.{flat_map}
use Rattle.schedule.specs.declared.record.Record.{Record}
use Rattle.schedule.specs.declared.record.Record.TheVariants.{Open, StartInSlot, StartWithToken, Step, Kill, Halt, EndedWell, EndedFailed, PutBack, Finished}

-- a kind of record: its letter in ASCII, how many bytes follow, and the record with those bytes as its body
pub record Kind : Type 0 where
  pub letter : ℕ
  pub follow : ℕ
  pub filled : List ℕ → Record

-- the kinds, O A T S K H E F R D
abbrev pub kinds : List Kind
kinds =
    record { letter = 79; follow = 3; filled = λ b. Open (slice_index b 0) (slice_index b 1) (slice_index b 2) }
    ∷ record { letter = 65; follow = 2; filled = λ b. StartInSlot (slice_index b 0) (slice_index b 1) }
    ∷ record { letter = 84; follow = 3; filled = λ b. StartWithToken (slice_index b 0) (slice_index b 1) (slice_index b 2) }
    ∷ record { letter = 83; follow = 1; filled = λ b. Step (slice_index b 0) }
    ∷ record { letter = 75; follow = 1; filled = λ b. Kill (slice_index b 0) }
    ∷ record { letter = 72; follow = 0; filled = λ b. Halt }
    ∷ record { letter = 69; follow = 1; filled = λ b. EndedWell (slice_index b 0) }
    ∷ record { letter = 70; follow = 2; filled = λ b. EndedFailed (slice_index b 0) (slice_index b 1) }
    ∷ record { letter = 82; follow = 2; filled = λ b. PutBack (slice_index b 0) (slice_index b 1) }
    ∷ record { letter = 68; follow = 1; filled = λ b. Finished (slice_index b 0) }
    ∷ []

-- the first of some kinds that has this letter
abbrev pub with_letter : ℕ → List Kind → Option Kind
with_letter byte [] = None
with_letter byte (k ∷ ks) = cond (byte == k.letter) (Some k) (with_letter byte ks)

-- the kind that a byte stands for
abbrev pub kind_of : ℕ → Option Kind
kind_of byte = with_letter byte kinds

-- a record's kind byte and its fields
abbrev pub bytes : Record → List ℕ
bytes (Open limit keep nodes) = 79 ∷ limit ∷ keep ∷ nodes ∷ []
bytes (StartInSlot make child) = 65 ∷ make ∷ child ∷ []
bytes (StartWithToken make child token) = 84 ∷ make ∷ child ∷ token ∷ []
bytes (Step job) = 83 ∷ job ∷ []
bytes (Kill job) = 75 ∷ job ∷ []
bytes Halt = 72 ∷ []
bytes (EndedWell node) = 69 ∷ node ∷ []
bytes (EndedFailed node cause) = 70 ∷ node ∷ cause ∷ []
bytes (PutBack make token) = 82 ∷ make ∷ token ∷ []
bytes (Finished failed) = 68 ∷ failed ∷ []

-- how many bytes a record takes
abbrev pub size : Record → ℕ
size r = length (bytes r)

-- records one behind the other
abbrev pub encoded : List Record → List ℕ
encoded rs = flat_map bytes rs
