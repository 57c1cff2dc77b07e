-- Sums over the byte values. Assumes nothing.
use Rattle.std.proofs.Common.{◌≡◌, ℕ, zero, suc, ◌+◌, ◌<◌, ◌≤◌, refl, ap, ⊎_elim, arith}
use Rattle.std.proofs.lemmas.Bool.{cases_lt}
use Rattle.std.proofs.lemmas.Bool.Decides.{nat_tests}
use Rattle.pool.specs.Meaning.{only, sum_below, total}

-- equal functions have equal sums
sum_same : (f g : ℕ → ℕ) (n : ℕ) → ((k : ℕ) → g k ≡ f k) → sum_below g n ≡ sum_below f n
unfolding sum_below
sum_same f g zero same = refl
sum_same f g (suc n) same = omega (arith, sum_same f g n same, same n)

-- x more at b, and no more elsewhere: below b nothing changes, past it the sum has x more
sum_before : (f g : ℕ → ℕ) (b x n : ℕ) → n ≤ b → ((k : ℕ) → g k ≡ f k + only b x k) → sum_below g n ≡ sum_below f n
unfolding sum_below
sum_before f g b x zero h more = refl
sum_before f g b x (suc n) h more =
    let rest : sum_below g n ≡ sum_below f n = sum_before f g b x n (omega arith) more in
    let here = more n in
    grind (arith, nat_tests, rest, here)

sum_past : (f g : ℕ → ℕ) (b x n : ℕ) → b < n → ((k : ℕ) → g k ≡ f k + only b x k) → sum_below g n ≡ sum_below f n + x
unfolding sum_below
sum_past f g b x zero h more = absurd (omega arith)
sum_past f g b x (suc n) h more =
    let here = more n in
    ⊎_elim
    (λ lt. let rest : sum_below g n ≡ sum_below f n + x = sum_past f g b x n lt more in grind (arith, nat_tests, rest, here))
    (λ ge. let rest : sum_below g n ≡ sum_below f n = sum_before f g b x n ge more in grind (arith, nat_tests, rest, here))
    (cases_lt b n)

sum_none : (n : ℕ) → sum_below (λ _. 0) n ≡ 0
unfolding sum_below
sum_none zero = refl
sum_none (suc n) = omega (arith, sum_none n)

point_sum : (f : ℕ → ℕ) (b n : ℕ) → b < n → f b ≤ sum_below f n
unfolding sum_below
point_sum f b zero h = absurd (omega arith)
point_sum f b (suc n) h =
    ⊎_elim
    (λ lt. let rest : f b ≤ sum_below f n = point_sum f b n lt in omega arith)
    (λ ge. let is : b ≡ n = omega arith in omega (arith, ap f is))
    (cases_lt b n)

-- the same at every byte
pub total_same : (f g : ℕ → ℕ) → ((k : ℕ) → g k ≡ f k) → total g ≡ total f
unfolding total
total_same f g same = sum_same f g 256 same

-- x more at the byte b, and no more elsewhere
pub total_more : (f g : ℕ → ℕ) (b x : ℕ) → b < 256 → ((k : ℕ) → g k ≡ f k + only b x k) → total g ≡ total f + x
unfolding total
total_more f g b x byte more = sum_past f g b x 256 byte more

-- nothing at any byte
pub total_none : total (λ _. 0) ≡ 0
unfolding total
total_none = sum_none 256

-- x at the byte b, and nothing elsewhere
pub total_only : (b x : ℕ) → b < 256 → total (only b x) ≡ x
total_only b x byte = omega (arith, total_more (λ _. 0) (only b x) b x byte (λ k. omega arith), total_none)

-- no byte has more than all have
pub total_point : (f : ℕ → ℕ) (b : ℕ) → b < 256 → f b ≤ total f
unfolding total
total_point f b byte = point_sum f b 256 byte
