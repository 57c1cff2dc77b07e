-- The fields of a record's line, one behind the other. Assumes nothing.
use Rattle.std.proofs.Common.{◌≡◌, ℕ, ◌+◌, ◌<◌, List, [], ◌∷◌, ◌++◌, length, get_or, take, decimal, sym, ap, ◌∙◌}
use Rattle.std.proofs.lemmas.List.{flat_map_more, take_more}
use Rattle.schedule.specs.Lines.{spaced}

pub spaced_more : (xs : List ℕ) (i : ℕ) → i < length xs → spaced (take (i + 1) xs) ≡ spaced (take i xs) ++ (32 ∷ decimal (get_or xs i 0))
spaced_more xs i h = ap spaced (take_more xs i 0 h) ∙ sym (flat_map_more (λ field. 32 ∷ decimal field) [] (take i xs) (get_or xs i 0))
