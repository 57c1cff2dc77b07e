-- A count as users write it: one to three digits, the first of them not 0.
use Rattle.std.specs.Prelude.{ℕ, ◌+◌, ◌-◌, ◌*◌, Bool, cond, ◌&&◌, List, [], ◌∷◌, Some, None, Option, nat_le}

-- The byte is a digit, from the one of value n to 9.
abbrev pub digit_from : ℕ → ℕ → Bool
digit_from n b = nat_le (48 + n) b && nat_le b 57

-- The value of a digit.
abbrev pub value : ℕ → ℕ
value b = b - 48

-- The number that the bytes write, if they are such a count.
abbrev pub count : List ℕ → Option ℕ
count [] = None
count (a ∷ []) = cond (digit_from 1 a) (Some (value a)) None
count (a ∷ b ∷ []) = cond (digit_from 1 a && digit_from 0 b) (Some (10 * value a + value b)) None
count (a ∷ b ∷ c ∷ []) = cond (digit_from 1 a && digit_from 0 b && digit_from 0 c) (Some (100 * value a + 10 * value b + value c)) None
count (a ∷ b ∷ c ∷ d ∷ rest) = None
