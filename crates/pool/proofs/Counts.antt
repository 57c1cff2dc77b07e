-- How often a byte stands in a list. Assumes nothing.
use Rattle.std.proofs.Common.{◌≡◌, ℕ, ◌+◌, ◌<◌, List, [], ◌∷◌, ◌++◌, refl, arith}
use Rattle.pool.specs.Meaning.{only, count}
use Rattle.std.proofs.lemmas.Bool.Decides.{nat_tests}

pub count_append : (k : ℕ) (xs : List ℕ) (b : ℕ) → count k (xs ++ b ∷ []) ≡ count k xs + only b 1 k
unfolding count
count_append k [] b = refl
count_append k (x ∷ xs) b = omega (arith, count_append k xs b)

-- what a list begins with is in it
pub first_counted : (b : ℕ) (xs : List ℕ) → 0 < count b (b ∷ xs)
unfolding count
first_counted b xs = grind (arith, nat_tests)

pub count_first : (k b : ℕ) (xs : List ℕ) → count k (b ∷ xs) ≡ count k xs + only b 1 k
unfolding count
count_first k b xs = refl
