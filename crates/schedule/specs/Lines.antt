-- The line of a record. Assumes nothing.
use Rattle.std.specs.Prelude.{ℕ, cond, List, [], ◌∷◌, ◌++◌, length, Ok, Err, decimal, Result, nat_le}
use Rattle.std.specs.List.{flat_map}
use Rattle.schedule.specs.declared.record.Record.{Record}
use Rattle.schedule.specs.declared.refusal.ShortBuffer.{ShortBuffer}
use Rattle.schedule.specs.Records.{bytes}

-- fields in decimal, each behind a space
abbrev pub spaced : List ℕ → List ℕ
spaced fields = flat_map (λ field. 32 ∷ decimal field) fields

-- the line of a record's bytes: the kind byte as its letter, the fields, and the end of the line
abbrev pub line_of : List ℕ → List ℕ
line_of [] = []
line_of (letter ∷ fields) = ((letter ∷ []) ++ spaced fields) ++ (10 ∷ [])

-- the line of a record
abbrev pub printed : Record → List ℕ
printed r = line_of (bytes r)

-- the line's length, or a refusal of a buffer under 24 bytes
abbrev pub line_answer : ℕ → Record → Result ℕ ShortBuffer
line_answer long r = cond (nat_le 24 long) (Ok (length (printed r))) (Err record {})
