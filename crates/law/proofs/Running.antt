-- How many children of a make run, as nodes start and end. Assumes nothing.
use Rattle.std.proofs.Common.{◌≡◌, ℕ, zero, suc, ◌+◌, ◌<◌, Bool, true, false, not, ◌&&◌, eqb, ◌⊎◌, List, refl, ap, inl, inr, ⊎_elim, arith}
use Rattle.law.proofs.Sums.{sum_same, sum_point, sum_change}
use Rattle.law.proofs.Views.{Turned, turned_here, turned_there}
use Rattle.law.specs.Counts.{one_if}
use Rattle.law.specs.Sound.{state_of, is_child, is_failed, children_running, BelowTop}
use Rattle.pool.specs.Meaning.{sum_below}
use Rattle.rules.specs.Builds.{is_waiting, is_running}
use Rattle.rules.specs.Plans.{Plan}
use Rattle.rules.specs.Words.{is_ended}
use Rattle.rules.specs.declared.progress.Progress.{Progress}
use Rattle.rules.specs.declared.progress.State.{State}
use Rattle.rules.specs.declared.progress.State.TheVariants.{Waiting, Running, Good, Failed}
use Rattle.std.proofs.lemmas.Bool.{and_parts, and_from, cases_Bool, cases_lt, eqb-true, eqb-false, eq-eqb, ne_eqb, not-true, not_from_false, false≢true}

-- states exclude one another
pub run_wait : (s : State) → is_running s ≡ true → is_waiting s ≡ true → ⊥
run_wait Waiting r w = false≢true r
run_wait Running r w = false≢true w
run_wait Good r w = false≢true r
run_wait (Failed c) r w = false≢true r

pub run_ended : (s : State) → is_running s ≡ true → is_ended s ≡ true → ⊥
run_ended Waiting r e = false≢true r
run_ended Running r e = false≢true e
run_ended Good r e = false≢true r
run_ended (Failed c) r e = false≢true r

pub wait_ended : (s : State) → is_waiting s ≡ true → is_ended s ≡ true → ⊥
wait_ended Waiting w e = false≢true e
wait_ended Running w e = false≢true w
wait_ended Good w e = false≢true w
wait_ended (Failed c) w e = false≢true w

pub ended_stops : (s : State) → is_ended s ≡ true → is_running s ≡ false
ended_stops Waiting e = refl
ended_stops Running e = absurd (false≢true e)
ended_stops Good e = refl
ended_stops (Failed c) e = refl

pub waits_not_running : (s : State) → is_waiting s ≡ true → is_running s ≡ false
waits_not_running Waiting w = refl
waits_not_running Running w = absurd (false≢true w)
waits_not_running Good w = refl
waits_not_running (Failed c) w = refl

pub run_begun : (s : State) → is_running s ≡ true → is_waiting s ≡ false
run_begun Waiting r = absurd (false≢true r)
run_begun Running r = refl
run_begun Good r = refl
run_begun (Failed c) r = refl

-- a state is one of four
pub four_states : (s : State) → (is_waiting s ≡ true) ⊎ ((is_running s ≡ true) ⊎ ((s ≡ Good) ⊎ (is_failed s ≡ true)))
four_states Waiting = inl refl
four_states Running = inr (inl refl)
four_states Good = inr (inr (inl refl))
four_states (Failed c) = inr (inr (inr refl))

pub one_true : (t : Bool) → t ≡ true → one_if t ≡ 1
one_true t e = ap one_if e

pub one_false : (t : Bool) → t ≡ false → one_if t ≡ 0
one_false t e = ap one_if e

-- whose child a node is
pub child_is : (t : Plan) (m n : ℕ) → is_child t m n ≡ true → (0 < n) × (t.make n ≡ m)
child_is t m n e =
    let parts = and_parts (not (eqb n 0)) (eqb (t.make n) m) e in
    let apart = eqb-false n 0 (not-true (eqb n 0) parts.0) in
    (omega (arith, apart), eqb-true (t.make n) m parts.1)

pub child_so : (t : Plan) (m n : ℕ) → 0 < n → t.make n ≡ m → is_child t m n ≡ true
child_so t m n pos is = and_from (not (eqb n 0)) (eqb (t.make n) m) (not_from_false (eqb n 0) (ne_eqb n 0 (λ e. omega arith))) (eq-eqb (t.make n) m is)

pub child_eqb : (t : Plan) (m n : ℕ) → 0 < n → is_child t m n ≡ eqb (t.make n) m
child_eqb t m n pos = ap (λ x. not x && eqb (t.make n) m) (ne_eqb n 0 (λ e. omega arith))

-- a sum above 0 has a term above 0
sum_some : (f : ℕ → ℕ) (n : ℕ) → 0 < sum_below f n → (k : ℕ) × (k < n) × (0 < f k)
unfolding sum_below
sum_some f zero h = absurd (omega arith)
sum_some f (suc n) h =
    ⊎_elim
    (λ here. (n, omega arith, here))
    (λ none. let rest = sum_some f n (omega arith) in (rest.0, omega (arith, rest.1), rest.2))
    (cases_lt 0 (f n))

module _ (t : Plan) (ns : List Progress) where
  -- a running child is counted
  pub runs_counted : (n : ℕ) → BelowTop t n → is_running (state_of ns n) ≡ true → 0 < children_running t ns (t.make n)
  runs_counted n below r =
      let one : one_if (is_child t (t.make n) n && is_running (state_of ns n)) ≡ 1 = one_true _ (and_from _ _ (child_so t (t.make n) n below.0 refl) r) in
      omega (arith, one, sum_point (λ k. one_if (is_child t (t.make n) k && is_running (state_of ns k))) n t.nodes below.1)

  -- where none is counted none runs
  pub none_runs : (m n : ℕ) → children_running t ns m ≡ 0 → BelowTop t n → t.make n ≡ m → is_running (state_of ns n) ≡ true → ⊥
  none_runs m n none below is r = let some = runs_counted n below r in omega (arith, some, ap (children_running t ns) is)

  -- where some is counted one runs
  pub some_runs : (m : ℕ) → 0 < children_running t ns m → (n : ℕ) × BelowTop t n × (t.make n ≡ m) × (is_running (state_of ns n) ≡ true)
  some_runs m h =
      let found = sum_some (λ n. one_if (is_child t m n && is_running (state_of ns n))) t.nodes h in
      let n = found.0 in
      ⊎_elim
      (λ so.
      let parts = and_parts (is_child t m n) (is_running (state_of ns n)) so in
      let child = child_is t m n parts.0 in
      (n, (child.0, found.1), child.1, parts.1))
      (λ not. absurd (omega (arith, found.2, one_false _ not)))
      (cases_Bool (is_child t m n && is_running (state_of ns n)))

  -- where none runs none is counted
  pub none_counted : (m : ℕ) → ((n : ℕ) → BelowTop t n → t.make n ≡ m → is_running (state_of ns n) ≡ true → ⊥) → children_running t ns m ≡ 0
  none_counted m none =
      by (children_running t ns m) refl
    where
      by : (x : ℕ) → children_running t ns m ≡ x → x ≡ 0
      by zero e = refl
      by (suc x) e = let found = some_runs m (omega arith) in absurd (none found.0 found.1 found.2 found.3)

-- one node turned: only the children of its make are counted anew
pub children_turned : {c : ℕ} {s : State} {ns ms : List Progress} (t : Plan) → Turned c s ns ms → c < t.nodes → (m : ℕ) → children_running t ms m + one_if (is_child t m c && is_running (state_of ns c)) ≡ children_running t ns m + one_if (is_child t m c && is_running s)
children_turned {c} {s} {ns} {ms} t v within m =
    let f : ℕ → ℕ = λ n. one_if (is_child t m n && is_running (state_of ns n)) in
    let g : ℕ → ℕ = λ n. one_if (is_child t m n && is_running (state_of ms n)) in
    let change = sum_change f g c t.nodes within (λ k b apart. ap (λ x. one_if (is_child t m k && is_running x)) (turned_there v k apart)) in
    let here : g c ≡ one_if (is_child t m c && is_running s) = ap (λ x. one_if (is_child t m c && is_running x)) (turned_here v) in
    omega (arith, change, here)

-- the same states, the same count
pub children_same : (t : Plan) (ns ms : List Progress) → ((k : ℕ) → state_of ms k ≡ state_of ns k) → (m : ℕ) → children_running t ms m ≡ children_running t ns m
children_same t ns ms same m = sum_same _ _ t.nodes (λ k b. ap (λ x. one_if (is_child t m k && is_running x)) (same k))
