-- A text cut at a byte, and what counts as a word.
use Rattle.std.specs.Prelude.{ℕ, Bool, true, false, cond, ◌&&◌, List, [], ◌∷◌, Some, None, Option, ◌==◌, nat_le}

-- One byte more in front of the first part.
abbrev pub before : ℕ → Option (List ℕ × List ℕ) → Option (List ℕ × List ℕ)
before b None = None
before b (Some parts) = Some (b ∷ parts.0, parts.1)

-- What stands before the first byte m and what stands behind it, if there is one.
unfoldable pub cut_at : ℕ → List ℕ → Option (List ℕ × List ℕ)
cut_at m [] = None
cut_at m (b ∷ bs) = cond (b == m) (Some ([], bs)) (before b (cut_at m bs))

-- Every byte is one that shows: from 33, `!`, to 126, `~`.
unfoldable pub all_show : List ℕ → Bool
all_show [] = true
all_show (b ∷ bs) = (nat_le 33 b && nat_le b 126) && all_show bs

-- A word has one byte or more, and all of them show.
abbrev pub is_word : List ℕ → Bool
is_word [] = false
is_word (b ∷ bs) = all_show (b ∷ bs)
