-- Words: how bytes are parted, and which bytes a line may have.
use Rattle.std.specs.Prelude.{ℕ, suc, Bool, true, cond, ◌&&◌, ◌||◌, List, [], ◌∷◌, ◌==◌, nat_le}

-- how many bytes stand before the first b
abbrev pub before : ℕ → List ℕ → ℕ
before b [] = 0
before b (x ∷ xs) = cond (x == b) 0 (suc (before b xs))

-- x in front of the first part
abbrev pub onto : ℕ → List (List ℕ) → List (List ℕ)
onto x [] = (x ∷ []) ∷ []
onto x (p ∷ ps) = (x ∷ p) ∷ ps

-- the parts between the bytes b: one more than there are b, each with no b
unfoldable pub parts : ℕ → List ℕ → List (List ℕ)
parts b [] = [] ∷ []
parts b (x ∷ xs) = let rest = parts b xs in cond (x == b) ([] ∷ rest) (onto x rest)

-- how many spaces stand at the front
abbrev pub indent : List ℕ → ℕ
indent [] = 0
indent (x ∷ xs) = cond (x == 32) (suc (indent xs)) 0

-- whether a test holds of every byte
abbrev pub every : (ℕ → Bool) → List ℕ → Bool
every f [] = true
every f (x ∷ xs) = f x && every f xs

-- `a` to `z`, `0` to `9`, `_`, `.` and `-`
abbrev pub name_byte : ℕ → Bool
name_byte b = (nat_le 97 b && nat_le b 122) || ((nat_le 48 b && nat_le b 57) || (b == 95 || (b == 46 || b == 45)))

-- a space, or a byte of a name
abbrev pub line_byte : ℕ → Bool
line_byte b = b == 32 || name_byte b
