-- The listing of a schedule. Assumes nothing.
use Rattle.std.specs.Prelude.{ℕ, List, [], ◌∷◌, ◌++◌, Some, None, codes, decimal, Option}
use Rattle.schedule.specs.Lines.{printed}
use Rattle.schedule.specs.Reading.{Entry, Division}
use Rattle.schedule.specs.Refusals.{read_number, read_place}
use Rattle.schedule.specs.declared.refusal.ReadRefusal.{ReadRefusal}

-- a record's place, a space and its line
abbrev pub entry_line : Entry → List ℕ
entry_line e = (decimal e.0 ++ codes " ") ++ printed e.1

-- the line of a refusal
abbrev pub refusal_line : ReadRefusal → List ℕ
refusal_line refusal =
    codes "refused " ++ (decimal (read_number refusal) ++ (codes " " ++ (decimal (read_place refusal) ++ (10 ∷ []))))

-- the line of the refusal that a reading ends with, if it does
abbrev pub stop_line : Option ReadRefusal → List ℕ
stop_line None = []
stop_line (Some refusal) = refusal_line refusal

-- the lines of entries, and then some bytes
abbrev pub lines_before : List Entry → List ℕ → List ℕ
lines_before [] end = end
lines_before (e ∷ es) end = entry_line e ++ lines_before es end

-- the listing of a reading: a line for each record, and one for the refusal
abbrev pub listed : Division → List ℕ
listed reading = lines_before reading.entries (stop_line reading.stop)
