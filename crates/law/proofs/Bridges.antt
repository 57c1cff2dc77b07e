-- What the rules ask of a make's children, as counts. Assumes nothing.
use Rattle.std.proofs.Common.{◌≡◌, ℕ, zero, suc, ◌+◌, ◌-◌, ◌<◌, ◌≤◌, Bool, true, false, cond, not, eqb, List, [], ◌∷◌, Some, sym, refl, ap, ◌∙◌, subst, ⊎_elim, arith}
use Rattle.law.proofs.Running.{runs_counted, none_counted}
use Rattle.law.specs.Sound.{children_running, HasWaiting, Shape, Busy}
use Rattle.rules.specs.Builds.{Build, at, is_running, is_waiting, running, waiting, has_running, has_waiting}
use Rattle.rules.specs.Lists.{numbers, those, put_if, any, when}
use Rattle.rules.specs.Plans.{children}
use Rattle.rules.specs.Settled.{SlotsUsed}
use Rattle.rules.specs.Startable.{startable, search_children, look}
use Rattle.rules.specs.declared.progress.State.{State}
use Rattle.rules.specs.declared.progress.State.TheVariants.{Waiting, Running, Good, Failed}
use Rattle.rules.proofs.Searches.{served}
use Rattle.std.proofs.lemmas.Bool.{cases_Bool, eqb-true, eq-eqb, true≢false, false≢true, and_from, not_from_false}

-- whether one passes, at the first
any_first : (p : ℕ → Bool) (x : ℕ) (xs : List ℕ) (t : Bool) → p x ≡ t → any p (x ∷ xs) ≡ cond t true (any p xs)
any_first p x xs true e = rw e refl
any_first p x xs false e = rw e refl

-- a number among those from k on that passes both tests
abbrev Among : (ℕ → Bool) → (ℕ → Bool) → ℕ → ℕ → Type 0
Among p q k n = (i : ℕ) × (k ≤ i) × (i < k + n) × (q i ≡ true) × (p i ≡ true)

any_some : (p q : ℕ → Bool) (k n : ℕ) → any p (those q (numbers k n)) ≡ true → Among p q k n
any_some p q k zero e = absurd (false≢true e)
any_some p q k (suc n) e = by (q k) refl (p k) refl e (any_some p q (k + 1) n)
  where
    later : Among p q (k + 1) n → Among p q k (suc n)
    later f = (f.0, omega (arith, f.1), omega (arith, f.2), f.3, f.4)

    by : (t : Bool) → q k ≡ t → (u : Bool) → p k ≡ u → any p (put_if t k (those q (numbers (k + 1) n))) ≡ true → (any p (those q (numbers (k + 1) n)) ≡ true → Among p q (k + 1) n) → Among p q k (suc n)
    by true is true passes h onward = (k, omega arith, omega arith, is, passes)
    by true is false passes h onward = later (onward (sym (any_first p k _ false passes) ∙ h))
    by false is u passes h onward = later (onward h)

any_none : (p q : ℕ → Bool) (k n : ℕ) → any p (those q (numbers k n)) ≡ false → (i : ℕ) → k ≤ i → i < k + n → q i ≡ true → p i ≡ true → ⊥
any_none p q k zero e i from below is passes = omega arith
any_none p q k (suc n) e i from below is passes = by (q k) refl (p k) refl e (λ h. any_none p q (k + 1) n h i)
  where
    same : (b : Bool) → (f : ℕ → Bool) → f k ≡ b → f i ≡ true → (i ≡ k) → b ≡ true
    same b f at-k at_i eq = sym at-k ∙ ap f (sym eq) ∙ at_i

    by : (t : Bool) → q k ≡ t → (u : Bool) → p k ≡ u → any p (put_if t k (those q (numbers (k + 1) n))) ≡ false → (any p (those q (numbers (k + 1) n)) ≡ false → k + 1 ≤ i → i < (k + 1) + n → q i ≡ true → p i ≡ true → ⊥) → ⊥
    by true at-k true here h onward = true≢false (sym (any_first p k _ true here) ∙ h)
    by true at-k false here h onward = onward (sym (any_first p k _ false here) ∙ h) (let apart : i ≡ k → ⊥ = λ eq. false≢true (same false p here passes eq) in omega (arith, apart)) (omega arith) is passes
    by false at-k u here h onward = onward h (let apart : i ≡ k → ⊥ = λ eq. false≢true (same false q at-k is eq) in omega (arith, apart)) (omega arith) is passes

module _ (b : Build) (m : ℕ) where
  pub running_some : has_running b m ≡ true → 0 < children_running b.plan b.nodes m
  running_some e =
      let f = any_some (running b) (λ k. eqb (b.plan.make k) m) 1 (b.plan.nodes - 1) e in
      let is = eqb-true (b.plan.make f.0) m f.3 in
      subst (λ j. 0 < children_running b.plan b.nodes j) is (runs_counted b.plan b.nodes f.0 (omega (arith, f.1), omega (arith, f.1, f.2)) f.4)

  pub running_none : has_running b m ≡ false → children_running b.plan b.nodes m ≡ 0
  running_none e = none_counted b.plan b.nodes m (λ n below is r. any_none (running b) (λ k. eqb (b.plan.make k) m) 1 (b.plan.nodes - 1) e n (omega (arith, below.0)) (omega (arith, below.0, below.1)) (eq-eqb (b.plan.make n) m is) r)

  pub waiting_some : has_waiting b m ≡ true → HasWaiting b.plan b.nodes m
  waiting_some e =
      let f = any_some (waiting b) (λ k. eqb (b.plan.make k) m) 1 (b.plan.nodes - 1) e in
      (f.0, (omega (arith, f.1), omega (arith, f.1, f.2)), eqb-true (b.plan.make f.0) m f.3, f.4)

  pub waiting_none : has_waiting b m ≡ false → HasWaiting b.plan b.nodes m → ⊥
  waiting_none e w = any_none (waiting b) (λ k. eqb (b.plan.make k) m) 1 (b.plan.nodes - 1) e w.0 (omega (arith, w.1.0)) (omega (arith, w.1.0, w.1.1)) (eq-eqb (b.plan.make w.0) m w.2) w.3

-- where no child runs and one has not begun, one may start
through : (b : Build) (k : ℕ) (ks : List ℕ) (free : Bool) → free ≡ true → (s : State) → is_running s ≡ false → (is_waiting s ≡ false → (c : ℕ) × (search_children b true true ks ≡ Some c)) → (c : ℕ) × (look s free true k (λ e. search_children b free e ks) ≡ Some c)
through b k ks true f Waiting r onward = (k, refl)
through b k ks true f Running r onward = absurd (true≢false r)
through b k ks true f Good r onward = onward refl
through b k ks true f (Failed c) r onward = onward refl
through b k ks false f s r onward = absurd (false≢true f)

search_idle : (b : Build) (ks : List ℕ) → any (running b) ks ≡ false → any (waiting b) ks ≡ true → (c : ℕ) × (search_children b true true ks ≡ Some c)
search_idle b [] r w = absurd (false≢true w)
search_idle b (k ∷ ks) r w =
    through b k ks (cond (b.plan.wait k) true true) (all (b.plan.wait k)) (at b k).state
    (⊎_elim (λ on. absurd (true≢false (sym (any_first (running b) k ks true on) ∙ r))) (λ off. off) (cases_Bool (running b k)))
    (λ begun. search_idle b ks
    (⊎_elim (λ on. absurd (true≢false (sym (any_first (running b) k ks true on) ∙ r))) (λ off. sym (any_first (running b) k ks false off) ∙ r) (cases_Bool (running b k)))
    (sym (any_first (waiting b) k ks false begun) ∙ w))
  where
    all : (t : Bool) → cond t true true ≡ true
    all true = refl
    all false = refl

pub idle_starts : (b : Build) (m : ℕ) → running b m ≡ true → (at b m).stopped ≡ false → has_running b m ≡ false → has_waiting b m ≡ true → (c : ℕ) × (startable b m ≡ Some c)
idle_starts b m live going idle waits =
    let found = search_idle b (children b.plan m) idle waits in
    (found.0, ap (λ t. when t (λ _. search_children b true true (children b.plan m))) (and_from (running b m) (not (at b m).stopped) live (not_from_false _ going)) ∙ found.1)

-- once no make can use its slot, every live make has a running child
pub busy_now : (b : Build) {h : Bool} → Shape h b.plan.nodes b.plan b.nodes b.tokens → SlotsUsed b → Busy b.plan b.nodes
busy_now b s used m within make live =
    ⊎_elim (λ some. some)
    (λ may. ⊎_elim (running_some b m)
    (λ idle.
    let waits : has_waiting b m ≡ true = ⊎_elim (λ w. w) (λ no_more. absurd (waiting_none b m no_more may.1)) (cases_Bool (has_waiting b m)) in
    let c = idle_starts b m live may.0 idle waits in
    absurd (used m c.0 (within, make) idle ((served b).finds m c.0 c.1)))
    (cases_Bool (has_running b m)))
    (s.able m within make (λ e. omega arith) live)
