-- Where every live make has a running child, one job more runs than tokens are in hand. Assumes nothing.
use Rattle.std.proofs.Common.{◌≡◌, ℕ, zero, suc, ◌+◌, ◌<◌, ◌≤◌, Bool, true, false, cond, not, ◌&&◌, eqb, List, [], ◌∷◌, length, sym, refl, ap, ◌∙◌, ⊎_elim, zero-add, arith}
use Rattle.law.proofs.Running.{one_true, one_false, child_eqb, none_counted}
use Rattle.law.proofs.Sums.{sum_same, sum_none, sum_both, sum_swap, sum_one, sum_change, sum_first}
use Rattle.law.specs.Counts.{one_if}
use Rattle.law.specs.Sound.{state_of, is_child, children_running, tokens_with, Planned, Shape, Busy}
use Rattle.pool.specs.Meaning.{sum_below}
use Rattle.rules.specs.Builds.{Build, is_running, running_jobs, running}
use Rattle.rules.specs.Builds.{Held}
use Rattle.rules.specs.Lists.{numbers, those, put_if}
use Rattle.rules.specs.Plans.{Plan, is_make}
use Rattle.rules.specs.declared.progress.Progress.{Progress}
use Rattle.std.proofs.lemmas.Bool.{cases_eq, cases_lt, eq-eqb, ne_eqb, both_ways}

-- how many jobs run
abbrev pub jobs_on : Plan → List Progress → ℕ
jobs_on t ns = sum_below (λ n. one_if (is_running (state_of ns n) && not (is_make t n))) t.nodes

-- how many makes are live
abbrev makes_on : Plan → List Progress → ℕ
makes_on t ns = sum_below (λ n. one_if (is_running (state_of ns n) && is_make t n)) t.nodes

-- a node that runs is counted at its make, but for the top make
at_make : (t : Plan) (ns : List Progress) → Planned t → (n : ℕ) → n < t.nodes → sum_below (λ m. one_if (is_child t m n && is_running (state_of ns n))) t.nodes + one_if (eqb n 0 && is_running (state_of ns n)) ≡ one_if (is_running (state_of ns n))
at_make t ns planned n within = by (is_running (state_of ns n))
  where
    by : (r : Bool) → sum_below (λ m. one_if (is_child t m n && r)) t.nodes + one_if (eqb n 0 && r) ≡ one_if r
    by false = let none = sum_none (λ m. one_if (is_child t m n && false)) t.nodes (λ m b. one_false _ (end (is_child t m n))) in let last : one_if (eqb n 0 && false) ≡ 0 = one_false _ (end (eqb n 0)) in omega (arith, none, last)
      where
        end : (x : Bool) → (x && false) ≡ false
        end true = refl
        end false = refl
    by true =
        ⊎_elim
        (λ top.
        let none = sum_none (λ m. one_if (is_child t m n && true)) t.nodes (λ m b. ap (λ x. one_if ((not x && eqb (t.make n) m) && true)) (eq-eqb n 0 top)) in
        let last : one_if (eqb n 0 && true) ≡ 1 = ap (λ x. one_if (x && true)) (eq-eqb n 0 top) in
        omega (arith, none, last))
        (λ nested.
        let pos : 0 < n = omega (arith, nested) in
        let less = (planned.ordered.placed n pos within).0 in
        let one = sum_same (λ m. cond (eqb (t.make n) m) 1 0) (λ m. one_if (is_child t m n && true)) t.nodes (λ m b. ap one_if (yes_so (is_child t m n) ∙ child_eqb t m n pos)) in
        let is = sum_one (t.make n) t.nodes (omega arith) in
        let last : one_if (eqb n 0 && true) ≡ 0 = ap (λ x. one_if (x && true)) (ne_eqb n 0 nested) in
        omega (arith, one, is, last))
        (cases_eq n 0)
      where
        yes_so : (x : Bool) → (x && true) ≡ x
        yes_so true = refl
        yes_so false = refl

-- all running children together are all running nodes but the top make
all_children : (t : Plan) (ns : List Progress) → Planned t → sum_below (children_running t ns) t.nodes + one_if (is_running (state_of ns 0)) ≡ sum_below (λ n. one_if (is_running (state_of ns n))) t.nodes
all_children t ns planned =
    let N = t.nodes in
    let inner : ℕ → ℕ = λ n. sum_below (λ m. one_if (is_child t m n && is_running (state_of ns n))) N in
    let first : ℕ → ℕ = λ n. one_if (eqb n 0 && is_running (state_of ns n)) in
    let swap = sum_swap (λ m n. one_if (is_child t m n && is_running (state_of ns n))) N N in
    let each = sum_same (λ n. one_if (is_running (state_of ns n))) (λ n. inner n + first n) N (at_make t ns planned) in
    let both = sum_both inner first N in
    let none = sum_none (λ n. 0) N (λ k b. refl) in
    let change = sum_change (λ n. 0) first 0 N planned.ordered.some (λ k b apart. ap (λ x. one_if (x && is_running (state_of ns k))) (ne_eqb k 0 apart)) in
    omega (arith, swap, each, both, none, change)

-- jobs and makes are all that run
kinds_on : (t : Plan) (ns : List Progress) → sum_below (λ n. one_if (is_running (state_of ns n))) t.nodes ≡ jobs_on t ns + makes_on t ns
kinds_on t ns =
    sum_same _ (λ n. one_if (is_running (state_of ns n))) t.nodes (λ n b. apart (is_running (state_of ns n)) (is_make t n))
    ∙ sum_both (λ n. one_if (is_running (state_of ns n) && not (is_make t n))) (λ n. one_if (is_running (state_of ns n) && is_make t n)) t.nodes
  where
    apart : (r m : Bool) → one_if r ≡ one_if (r && not m) + one_if (r && m)
    apart true true = refl
    apart true false = refl
    apart false m = refl

-- every token is of some make of the tree
tokens_all : (n : ℕ) (ts : List Held) → ((m : ℕ) → n ≤ m → tokens_with m ts ≡ 0) → sum_below (λ m. tokens_with m ts) n ≡ length ts
tokens_all n [] few = sum_none (λ m. 0) n (λ k b. refl)
tokens_all n (x ∷ ts) few =
    let within : x.by < n = ⊎_elim (λ lt. lt) (λ ge. absurd (omega (arith, few x.by ge, one_true _ (eq-eqb x.by x.by refl)))) (cases_lt x.by n) in
    let both = sum_both (λ m. one_if (eqb x.by m)) (λ m. tokens_with m ts) n in
    let one = sum_one x.by n within in
    let rest = tokens_all n ts (λ m h. omega (arith, few m h)) in
    omega (arith, both, one, rest)

module _ {h : Bool} {p : ℕ} {t : Plan} {ns : List Progress} {ts : List Held} (s : Shape h p t ns ts) where
  -- past the tree there are no children
  none_past : (m : ℕ) → t.nodes ≤ m → children_running t ns m ≡ 0
  none_past m past = none_counted t ns m (λ n b is r. omega (arith, (s.planned.ordered.placed n b.0 b.1).0, b.1, is))

  pub tokens_counted : sum_below (λ m. tokens_with m ts) t.nodes ≡ length ts
  tokens_counted = tokens_all t.nodes ts (λ m past. let none = none_past m past in omega (arith, s.paid m, none))

  -- the tokens of a make and its slot
  slots : Busy t ns → (m : ℕ) → m < t.nodes → tokens_with m ts + one_if (is_running (state_of ns m) && is_make t m) ≡ children_running t ns m
  slots busy m within = by (is_running (state_of ns m)) (is_make t m) refl refl
    where
      by : (r k : Bool) → is_running (state_of ns m) ≡ r → is_make t m ≡ k → tokens_with m ts + one_if (r && k) ≡ children_running t ns m
      by true true runs make = omega (arith, s.paid m, busy m within make runs)
      by true false runs job = let none = none_counted t ns m (λ n b is r. both_ways _ job (ap (is_make t) (sym is) ∙ (s.planned.ordered.placed n b.0 b.1).1)) in omega (arith, s.paid m, none)
      by false k stands kind = let none = none_counted t ns m (λ n b is r. both_ways _ stands (ap (λ j. is_running (state_of ns j)) (sym is) ∙ s.lives n b r)) in omega (arith, s.paid m, none)

  pub one_more : Busy t ns → is_running (state_of ns 0) ≡ true → jobs_on t ns ≡ length ts + 1
  one_more busy top =
      let all = all_children t ns s.planned in
      let kinds = kinds_on t ns in
      let each = sum_same (children_running t ns) (λ m. tokens_with m ts + one_if (is_running (state_of ns m) && is_make t m)) t.nodes (slots busy) in
      let both = sum_both (λ m. tokens_with m ts) (λ m. one_if (is_running (state_of ns m) && is_make t m)) t.nodes in
      omega (arith, all, kinds, each, both, tokens_counted, one_true _ top)

-- the list of those that pass is as long as their number
listed : (p : ℕ → Bool) (k n : ℕ) (f : ℕ → ℕ) → ((i : ℕ) → f i ≡ one_if (p (k + i))) → length (those p (numbers k n)) ≡ sum_below f n
listed p k zero f same = sym (sum_none f 0 (λ i b. absurd (omega arith)))
listed p k (suc n) f same =
    let rest = listed p (k + 1) n (λ i. f (i + 1)) (λ i. same (i + 1) ∙ ap (λ j. one_if (p j)) (omega arith)) in
    let first : f 0 ≡ one_if (p k) = same 0 ∙ ap (λ j. one_if (p j)) (omega arith) in
    let long = put_length (p k) in
    omega (arith, rest, first, long, sum_first f n)
  where
    put_length : (t : Bool) → length (put_if t k (those p (numbers (k + 1) n))) ≡ one_if t + length (those p (numbers (k + 1) n))
    put_length true = omega arith
    put_length false = omega arith

pub jobs_listed : (b : Build) → length (running_jobs b) ≡ jobs_on b.plan b.nodes
jobs_listed b = listed (λ n. running b n && not (is_make b.plan n)) 0 b.plan.nodes _ (λ i. ap (λ j. one_if (running b j && not (is_make b.plan j))) (sym (zero-add i)))
