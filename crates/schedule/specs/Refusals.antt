-- The refusals of this crate: each by its number and its values. Assumes nothing.
use Rattle.std.specs.Prelude.{ℕ}
use Rattle.schedule.specs.declared.refusal.ReadRefusal.{ReadRefusal}
use Rattle.schedule.specs.declared.refusal.ReadRefusal.TheVariants.{UnknownKind, CutShort}
use Rattle.schedule.specs.declared.refusal.ShortBuffer.{ShortBuffer}

-- no record has the kind byte; a body is cut short
abbrev pub read_number : ReadRefusal → ℕ
read_number (UnknownKind place) = 19
read_number (CutShort place) = 20

-- the place of the kind byte that the refusal is about
abbrev pub read_place : ReadRefusal → ℕ
read_place (UnknownKind place) = place
read_place (CutShort place) = place

-- a buffer is shorter than what is to be written needs
abbrev pub buffer_number : ShortBuffer → ℕ
buffer_number refusal = 15
