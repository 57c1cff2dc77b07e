-- The table of kinds against the bytes of records. Assumes nothing.
use Rattle.std.proofs.Common.{◌≡◌, ℕ, List, ◌∷◌, ◌++◌, length, Some, Ok, arith}
use Rattle.std.proofs.lemmas.Grind.{common_steps}
use Rattle.schedule.specs.declared.record.Record.{Record}
use Rattle.schedule.specs.Records.{Kind, kind_of, bytes}
use Rattle.schedule.specs.Reading.{found}

-- what was written is found, whatever follows
pub found_written : (r : Record) (rest : List ℕ) (place : ℕ) → found (bytes r ++ rest) place ≡ Ok (Some (place, r))
found_written r rest place = grind arith

-- the record that stands behind a kind byte has that byte and its body as its bytes
pub bytes_made : (byte : ℕ) (k : Kind) → kind_of byte ≡ Some k → (body : List ℕ) → length body ≡ k.follow → bytes (k.filled body) ≡ byte ∷ body
bytes_made byte k e body long = grind (arith, common_steps)
