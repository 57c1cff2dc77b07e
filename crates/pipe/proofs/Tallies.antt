-- Counts per byte as one of them changes. Assumes nothing.
use Rattle.std.proofs.Common.{◌≡◌, ℕ, zero, suc, ◌+◌, ◌-◌, ◌<◌, List, length, get_or, set, replicate, sym, refl, ◌∙◌, arith}
use Rattle.pool.proofs.Totals.{total_more, total_none, total_same}
use Rattle.pool.specs.Meaning.{only, total}
use Rattle.std.proofs.lemmas.Bool.Decides.{nat_tests}
use Rattle.std.proofs.lemmas.Grind.{common_steps}

-- a table with a count for each byte value, and the count of one of them changed
module _ (xs : List ℕ) (b : ℕ) (size : length xs ≡ 256) (byte : b < 256) where
  -- the count of b is one more
  pub raised : (k : ℕ) → get_or (set xs b (get_or xs b 0 + 1)) k 0 ≡ get_or xs k 0 + only b 1 k
  raised k = grind (arith, nat_tests, common_steps)

  pub raised_total : total (λ k. get_or (set xs b (get_or xs b 0 + 1)) k 0) ≡ total (λ k. get_or xs k 0) + 1
  raised_total = total_more (λ k. get_or xs k 0) (λ k. get_or (set xs b (get_or xs b 0 + 1)) k 0) b 1 byte raised

  -- the count of b is one less
  pub lowered : 0 < get_or xs b 0 → (k : ℕ) → get_or (set xs b (get_or xs b 0 - 1)) k 0 + only b 1 k ≡ get_or xs k 0
  lowered some k = grind (arith, nat_tests, common_steps)

  pub lowered_total : 0 < get_or xs b 0 → total (λ k. get_or xs k 0) ≡ total (λ k. get_or (set xs b (get_or xs b 0 - 1)) k 0) + 1
  lowered_total some = total_more (λ k. get_or (set xs b (get_or xs b 0 - 1)) k 0) (λ k. get_or xs k 0) b 1 byte (λ k. sym (lowered some k))

-- a table of n zeros
abbrev pub zeros : ℕ → List ℕ
zeros n = replicate n 0

-- in a table of zeros there is none of any byte
pub all_zero : (n k : ℕ) → get_or (zeros n) k 0 ≡ 0
all_zero zero k = refl
all_zero (suc n) zero = refl
all_zero (suc n) (suc k) = all_zero n k

-- none of each byte is none in all
pub sum_zero : (f : ℕ → ℕ) → ((k : ℕ) → f k ≡ 0) → total f ≡ 0
sum_zero f zeros = total_same (λ _. 0) f zeros ∙ total_none
