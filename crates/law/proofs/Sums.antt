-- Sums over the numbers below a bound. Assumes nothing.
use Rattle.std.proofs.Common.{◌≡◌, ℕ, zero, suc, ◌+◌, ◌<◌, ◌≤◌, cond, eqb, sym, refl, ap, ⊎_elim, arith}
use Rattle.pool.specs.Meaning.{sum_below}
use Rattle.std.proofs.lemmas.Bool.{cases_lt, eq-eqb, ne_eqb}

pub sum_same : (f g : ℕ → ℕ) (n : ℕ) → ((k : ℕ) → k < n → g k ≡ f k) → sum_below g n ≡ sum_below f n
unfolding sum_below
sum_same f g zero same = refl
sum_same f g (suc n) same = omega (arith, sum_same f g n (λ k h. same k (omega arith)), same n (omega arith))

pub sum_none : (f : ℕ → ℕ) (n : ℕ) → ((k : ℕ) → k < n → f k ≡ 0) → sum_below f n ≡ 0
unfolding sum_below
sum_none f zero none = refl
sum_none f (suc n) none = omega (arith, sum_none f n (λ k h. none k (omega arith)), none n (omega arith))

pub sum_both : (f g : ℕ → ℕ) (n : ℕ) → sum_below (λ k. f k + g k) n ≡ sum_below f n + sum_below g n
unfolding sum_below
sum_both f g zero = refl
sum_both f g (suc n) = omega (arith, sum_both f g n)

pub sum_within : (f g : ℕ → ℕ) (n : ℕ) → ((k : ℕ) → k < n → f k ≤ g k) → sum_below f n ≤ sum_below g n
unfolding sum_below
sum_within f g zero less = omega arith
sum_within f g (suc n) less = omega (arith, sum_within f g n (λ k h. less k (omega arith)), less n (omega arith))

pub sum_point : (f : ℕ → ℕ) (c n : ℕ) → c < n → f c ≤ sum_below f n
unfolding sum_below
sum_point f c zero h = absurd (omega arith)
sum_point f c (suc n) h =
    ⊎_elim (λ lt. omega (arith, sum_point f c n lt)) (λ ge. let is : c ≡ n = omega arith in omega (arith, ap f is)) (cases_lt c n)

-- only the term at c changes
pub sum_change : (f g : ℕ → ℕ) (c n : ℕ) → c < n → ((k : ℕ) → k < n → (k ≡ c → ⊥) → g k ≡ f k) → sum_below g n + f c ≡ sum_below f n + g c
unfolding sum_below
sum_change f g c zero h same = absurd (omega arith)
sum_change f g c (suc n) h same =
    ⊎_elim
    (λ lt. omega (arith, sum_change f g c n lt (λ k b. same k (omega arith)), same n (omega arith) (λ e. omega arith)))
    (λ ge.
    let is : c ≡ n = omega arith in
    omega (arith, ap f is, ap g is, sum_same f g n (λ k b. same k (omega arith) (λ e. omega arith))))
    (cases_lt c n)

-- the sum of a table by rows is that by columns
pub sum_swap : (f : ℕ → ℕ → ℕ) (a b : ℕ) → sum_below (λ m. sum_below (f m) a) b ≡ sum_below (λ n. sum_below (λ m. f m n) b) a
unfolding sum_below
sum_swap f a zero = sym (sum_none (λ n. 0) a (λ k h. refl))
sum_swap f a (suc b) =
    let rest = sum_swap f a b in
    let both = sum_both (λ n. sum_below (λ m. f m n) b) (f b) a in
    omega (arith, rest, both)

-- one at c
pub sum_one : (c n : ℕ) → c < n → sum_below (λ m. cond (eqb c m) 1 0) n ≡ 1
sum_one c n h =
    let f : ℕ → ℕ = λ m. 0 in
    let g : ℕ → ℕ = λ m. cond (eqb c m) 1 0 in
    let here : g c ≡ 1 = ap (λ t. cond t 1 0) (eq-eqb c c refl) in
    let change = sum_change f g c n h (λ k b apart. ap (λ t. cond t 1 0) (ne_eqb c k (λ e. apart (sym e)))) in
    let none = sum_none f n (λ k b. refl) in
    omega (arith, change, none, here)

-- the first term apart
pub sum_first : (f : ℕ → ℕ) (n : ℕ) → sum_below f (suc n) ≡ f 0 + sum_below (λ k. f (k + 1)) n
unfolding sum_below
sum_first f zero = omega arith
sum_first f (suc n) = let rest = sum_first f n in let same : f (suc n) ≡ f (n + 1) = ap f (omega arith) in omega (arith, rest, same)
