-- Sums over the nodes, when one node changes. Assumes nothing.
use Rattle.std.proofs.Common.{◌≡◌, ℕ, zero, suc, ◌+◌, ◌<◌, ◌≤◌, List, [], ◌∷◌, length, get_or, set, ap, subst, arith}
use Rattle.rules.specs.declared.progress.Progress.{Progress}
use Rattle.build.specs.Rooms.{sum_from}

module _ (f : ℕ → Progress → ℕ) (y d : Progress) where
  set_from : (k : ℕ) (xs : List Progress) (n : ℕ) → n < length xs → sum_from f k (set xs n y) + f (k + n) (get_or xs n d) ≡ sum_from f k xs + f (k + n) y
  unfolding sum_from
  set_from k [] n h = absurd (omega arith)
  set_from k (x ∷ xs) zero h =
      let here : k + 0 ≡ k = omega arith in
      let old = ap (λ j. f j x) here in
      let new = ap (λ j. f j y) here in
      omega arith
  set_from k (x ∷ xs) (suc n) h =
      let rest = set_from (k + 1) xs n (omega arith) in
      let here : k + 1 + n ≡ k + suc n = omega arith in
      let old = ap (λ j. f j (get_or xs n d)) here in
      let new = ap (λ j. f j y) here in
      omega arith

  -- the sum with node n changed
  pub sum_set : (xs : List Progress) (n : ℕ) → n < length xs → sum_from f 0 (set xs n y) + f n (get_or xs n d) ≡ sum_from f 0 xs + f n y
  sum_set xs n h =
      let here : 0 + n ≡ n = omega arith in
      subst (λ j. sum_from f 0 (set xs n y) + f j (get_or xs n d) ≡ sum_from f 0 xs + f j y) here (set_from 0 xs n h)

module _ (f : ℕ → Progress → ℕ) (d : Progress) where
  point_from : (k : ℕ) (xs : List Progress) (n : ℕ) → n < length xs → f (k + n) (get_or xs n d) ≤ sum_from f k xs
  unfolding sum_from
  point_from k [] n h = absurd (omega arith)
  point_from k (x ∷ xs) zero h =
      let here : k + 0 ≡ k = omega arith in
      let old = ap (λ j. f j x) here in
      omega arith
  point_from k (x ∷ xs) (suc n) h =
      let rest = point_from (k + 1) xs n (omega arith) in
      let here : k + 1 + n ≡ k + suc n = omega arith in
      let old = ap (λ j. f j (get_or xs n d)) here in
      omega arith

  -- each node's part is within the sum
  pub sum_point : (xs : List Progress) (n : ℕ) → n < length xs → f n (get_or xs n d) ≤ sum_from f 0 xs
  sum_point xs n h = let here : 0 + n ≡ n = omega arith in subst (λ j. f j (get_or xs n d) ≤ sum_from f 0 xs) here (point_from 0 xs n h)
