-- From the tokens in the makes' hands to what the records say that they hold. Assumes nothing.
use Rattle.std.proofs.Common.{◌≡◌, ℕ, zero, suc, ◌+◌, ◌<◌, ◌≤◌, Bool, true, false, cond, not, ◌&&◌, eqb, List, [], ◌∷◌, length, Some, None, sym, refl, ap, ◌∙◌, subst, ⊎_elim, arith}
use Rattle.law.proofs.Conserving.{in_hand}
use Rattle.law.proofs.Counting.{jobs_on, one_more}
use Rattle.law.proofs.Outcomes.{Books}
use Rattle.law.proofs.Running.{one_true, none_counted}
use Rattle.law.proofs.Shapes.{rooted}
use Rattle.law.proofs.Sums.{sum_same, sum_none, sum_both, sum_one}
use Rattle.law.proofs.Telling.{is_held, verdict}
use Rattle.law.specs.Counts.{one_if, how_many, holds, makes_hold, all_held, runs, jobs_running, finish_of}
use Rattle.law.specs.Sound.{entry, state_of, tokens_with, children_running, BelowTop, Shape}
use Rattle.pool.specs.Meaning.{sum_below, total}
use Rattle.rules.specs.Builds.{Build, is_running, is_waiting}
use Rattle.rules.specs.Builds.{Held}
use Rattle.rules.specs.Plans.{Plan, is_make}
use Rattle.rules.specs.declared.progress.State.{State}
use Rattle.rules.specs.declared.progress.State.TheVariants.{Waiting, Running, Good, Failed}
use Rattle.schedule.specs.declared.record.Record.{Record}
use Rattle.std.proofs.lemmas.Bool.{cases_lt, cases_eq, cases_Bool, eq-eqb, and_parts, true≢false, false≢true, both_ways}

-- a sum over all makes of what each has of a byte
held_sum : (n k : ℕ) (ts : List Held) → ((m : ℕ) → n ≤ m → tokens_with m ts ≡ 0) → sum_below (λ m. how_many (is_held m k) ts) n ≡ in_hand k ts
held_sum n k [] few = sum_none (λ m. 0) n (λ i b. refl)
held_sum n k (x ∷ ts) few =
    let within : x.by < n = ⊎_elim (λ lt. lt) (λ ge. absurd (omega (arith, few x.by ge, one_true _ (eq-eqb x.by x.by refl)))) (cases_lt x.by n) in
    let both = sum_both (λ m. one_if (eqb x.by m && eqb x.byte k)) (λ m. how_many (is_held m k) ts) n in
    let rest = held_sum n k ts (λ m h. omega (arith, few m h)) in
    let here = by (eqb x.byte k) within in
    omega (arith, both, rest, here)
  where
    by : (t : Bool) → x.by < n → sum_below (λ m. one_if (eqb x.by m && t)) n ≡ one_if t
    by true within = sum_same (λ m. cond (eqb x.by m) 1 0) (λ m. one_if (eqb x.by m && true)) n (λ m b. ap one_if (and_true (eqb x.by m))) ∙ sum_one x.by n within
      where
        and_true : (u : Bool) → (u && true) ≡ u
        and_true true = refl
        and_true false = refl
    by false within = sum_none (λ m. one_if (eqb x.by m && false)) n (λ m b. ap one_if (and_false (eqb x.by m)))
      where
        and_false : (u : Bool) → (u && false) ≡ false
        and_false true = refl
        and_false false = refl

-- a sum over all bytes
byte_sum : (n : ℕ) (ts : List Held) → ((k : ℕ) → n ≤ k → in_hand k ts ≡ 0) → sum_below (λ k. in_hand k ts) n ≡ length ts
byte_sum n [] few = sum_none (λ k. 0) n (λ i b. refl)
byte_sum n (x ∷ ts) few =
    let within : x.byte < n = ⊎_elim (λ lt. lt) (λ ge. absurd (omega (arith, few x.byte ge, one_true _ (eq-eqb x.byte x.byte refl)))) (cases_lt x.byte n) in
    let both = sum_both (λ k. one_if (eqb x.byte k)) (λ k. in_hand k ts) n in
    let one = sum_one x.byte n within in
    let rest = byte_sum n ts (λ k h. omega (arith, few k h)) in
    omega (arith, both, one, rest)

-- of one make and byte no more than of the make
held_few : (m k : ℕ) (ts : List Held) → how_many (is_held m k) ts ≤ tokens_with m ts
held_few m k [] = omega arith
held_few m k (x ∷ ts) = let rest = held_few m k ts in let here = less (eqb x.by m) (eqb x.byte k) in omega (arith, rest, here)
  where
    less : (a b : Bool) → one_if (a && b) ≤ one_if a
    less true true = omega arith
    less true false = omega arith
    less false b = omega arith

total_both : (f g : ℕ → ℕ) → total (λ k. f k + g k) ≡ total f + total g
unfolding total
total_both f g = sum_both f g 256

total_like : (f g : ℕ → ℕ) → ((k : ℕ) → g k ≡ f k) → total g ≡ total f
unfolding total
total_like f g same = sum_same f g 256 (λ k b. same k)

-- three counts that add up at every byte add up in all
pub total_three : (f g h all : ℕ → ℕ) → ((k : ℕ) → f k + g k + h k ≡ all k) → total f + total g + total h ≡ total all
total_three f g h all same =
    let sum = total_like all (λ k. f k + g k + h k) same in
    omega (arith, sum, total_both (λ k. f k + g k) h, total_both f g)

module _ {t : Plan} {b : Build} {rs : List Record} (k : Books t b rs) where
  -- the shape, over the tree t
  shape : Shape false t.nodes t b.nodes b.tokens
  shape = subst (λ q. Shape false q.nodes q b.nodes b.tokens) k.plan k.shape

  pub holds_is : (m byte : ℕ) → holds m byte rs ≡ how_many (is_held m byte) b.tokens
  holds_is m byte = let all = k.told.tokens m byte in omega (arith, all)

  past : (m : ℕ) → t.nodes ≤ m → tokens_with m b.tokens ≡ 0
  past m far = let none = none_counted t b.nodes m (λ n below is r. omega (arith, (shape.planned.ordered.placed n below.0 below.1).0, below.1, is)) in omega (arith, shape.paid m, none)

  pub makes_hold_is : (byte : ℕ) → makes_hold t byte rs ≡ in_hand byte b.tokens
  makes_hold_is byte = sum_same (λ m. how_many (is_held m byte) b.tokens) (λ m. holds m byte rs) t.nodes (λ m w. holds_is m byte) ∙ held_sum t.nodes byte b.tokens past

  pub all_held_is : ((byte : ℕ) → 256 ≤ byte → in_hand byte b.tokens ≡ 0) → all_held t rs ≡ length b.tokens
  unfolding total
  all_held_is bytes = sum_same (λ byte. in_hand byte b.tokens) (λ byte. makes_hold t byte rs) 256 (λ byte w. makes_hold_is byte) ∙ byte_sum 256 b.tokens bytes

  pub jobs_running_is : jobs_running t rs ≡ jobs_on t b.nodes
  jobs_running_is = sum_same (λ n. one_if (is_running (state_of b.nodes n) && not (is_make t n))) (λ n. one_if (runs n rs && not (is_make t n))) t.nodes
      (λ n w. ⊎_elim
      (λ top. ap one_if (no_job (runs n rs) (is_make t n) (ap (is_make t) top ∙ shape.planned.ordered.top) ∙ sym (no_job (is_running (state_of b.nodes n)) (is_make t n) (ap (is_make t) top ∙ shape.planned.ordered.top))))
      (λ far. ap (λ x. one_if (x && not (is_make t n))) (k.told.on n (omega (arith, far))))
      (cases_eq n 0))
    where
      no_job : (x y : Bool) → y ≡ true → (x && not y) ≡ false
      no_job true true e = refl
      no_job true false e = absurd (false≢true e)
      no_job false y e = refl

  -- until the finish is told the top make runs
  pub top_runs : finish_of rs ≡ None → is_running (state_of b.nodes 0) ≡ true
  top_runs none = by (state_of b.nodes 0) refl k.begun (sym k.finish ∙ none)
    where
      by : (s : State) → state_of b.nodes 0 ≡ s → is_waiting s ≡ false → verdict s ≡ None → is_running s ≡ true
      by Waiting e w v = absurd (true≢false w)
      by Running e w v = refl
      by Good e w v = let z : ◌≡◌ {A = ℕ} 0 1 = cc in absurd (omega arith)
      by (Failed c) e w v = let z : ◌≡◌ {A = ℕ} 0 1 = cc in absurd (omega arith)

  pub one_job_more : ((byte : ℕ) → 256 ≤ byte → in_hand byte b.tokens ≡ 0) → is_running (state_of b.nodes 0) ≡ true → jobs_running t rs ≡ all_held t rs + 1
  one_job_more bytes top =
      let count = one_more shape (subst (λ q. (m : ℕ) → m < q.nodes → is_make q m ≡ true → is_running (state_of b.nodes m) ≡ true → 0 < children_running q b.nodes m) k.plan k.busy) top in
      omega (arith, count, jobs_running_is, all_held_is bytes)

  -- once the top make has ended nothing runs
  pub none_on : is_running (state_of b.nodes 0) ≡ false → jobs_running t rs ≡ 0
  none_on over = jobs_running_is ∙ sum_none _ t.nodes (λ n w. ap one_if (⊎_elim
      (λ on. absurd (both_ways _ over (rooted shape n w (and_parts (is_running (state_of b.nodes n)) (not (is_make t n)) on).0)))
      (λ off. off)
      (cases_Bool (is_running (state_of b.nodes n) && not (is_make t n)))))

  pub none_held : is_running (state_of b.nodes 0) ≡ false → (m byte : ℕ) → holds m byte rs ≡ 0
  none_held over m byte =
      let none = none_counted t b.nodes m (λ n below is r. both_ways _ over (rooted shape n below.1 r)) in
      omega (arith, holds_is m byte, held_few m byte b.tokens, shape.paid m, none)

  -- how the finish is told
  pub over_so : (failed : ℕ) → finish_of rs ≡ Some failed → (is_running (state_of b.nodes 0) ≡ false) × ((failed ≡ 1 → ⊥) → state_of b.nodes 0 ≡ Good)
  over_so failed e = by (state_of b.nodes 0) refl (sym k.finish ∙ e)
    where
      by : (s : State) → state_of b.nodes 0 ≡ s → verdict s ≡ Some failed → (is_running s ≡ false) × ((failed ≡ 1 → ⊥) → s ≡ Good)
      by Waiting is v = let z : ◌≡◌ {A = ℕ} 0 1 = cc in absurd (omega arith)
      by Running is v = let z : ◌≡◌ {A = ℕ} 0 1 = cc in absurd (omega arith)
      by Good is v = (refl, λ _. refl)
      by (Failed c) is v = let one : failed ≡ 1 = cc in (refl, λ apart. absurd (apart one))

  -- below a make that ended well all did
  all_good : (fuel n : ℕ) → n < fuel → n < t.nodes → state_of b.nodes 0 ≡ Good → state_of b.nodes n ≡ Good
  all_good zero n short within good = absurd (omega arith)
  all_good (suc fuel) n short within good = ⊎_elim
      (λ top. ap (state_of b.nodes) top ∙ good)
      (λ far.
      let below : BelowTop t n = (omega (arith, far), within) in
      let less = (shape.planned.ordered.placed n below.0 within).0 in
      shape.good n below (all_good fuel (t.make n) (omega arith) (omega arith) good))
      (cases_eq n 0)

  pub good_job : (n : ℕ) → n < t.nodes → is_make t n ≡ false → state_of b.nodes 0 ≡ Good → (state_of b.nodes n ≡ Good) × ((entry b.nodes n).done ≡ t.steps n)
  good_job n within job good =
      let so = all_good (suc n) n (omega arith) within good in
      (so, shape.full n within job so)
