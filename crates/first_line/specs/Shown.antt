-- What parts of a text stand for: their bytes.
use Rattle.std.specs.Prelude.{ℕ, List, Some, None, Option}
use Rattle.std.specs.Borrow.{Bor}

abbrev pub parts : Option (Bor (List ℕ) × Bor (List ℕ)) → Option (List ℕ × List ℕ)
parts None = None
parts (Some p) = Some (p.0.now, p.1.now)
