-- The search for a child that may start finds just that child. Assumes nothing.
use Rattle.std.proofs.Common.{◌≡◌, ℕ, zero, suc, ◌+◌, ◌<◌, ◌≤◌, Bool, true, false, cond, not, ◌&&◌, List, [], ◌∷◌, ◌++◌, length, Some, None, Option, sym, refl, ap, ◌∙◌, subst, ⊎_elim, arith, length-append}
use Rattle.rules.specs.Builds.{Build, at, running, waiting, is_waiting, has_running}
use Rattle.rules.specs.Lists.{numbers, those, first_of, or_else, put_if, when}
use Rattle.rules.specs.Plans.{is_make, children}
use Rattle.rules.specs.Settling.{Start, starts, next_in_slot, next_with_token}
use Rattle.rules.specs.Startable.{look, search_children, startable}
use Rattle.rules.specs.Words.{Each, is_ended, Startable, Make, InSlot, WithToken, Served}
use Rattle.rules.specs.declared.progress.State.{State}
use Rattle.rules.specs.declared.progress.State.TheVariants.{Waiting, Running, Good, Failed}
use Rattle.std.proofs.lemmas.Bool.{and_from, and_parts, both_ways, cases_Bool, cases_eq, cond-false, cond-true, not-true, true≢false}

module _ (b : Build) where
  -- whether the last of these children is free to start, by what was so before them
  abbrev free_at : Bool → Bool → List ℕ → Bool
  free_at free ended [] = free
  free_at free ended (k ∷ ks) = free_at (cond (b.plan.wait k) ended free) (ended && is_ended (at b k).state) ks

  abbrev NoWait : List ℕ → Type 0
  NoWait ks = Each (λ k. b.plan.wait k ≡ false) ks

  abbrev Ended : List ℕ → Type 0
  Ended ks = Each (λ k. is_ended (at b k).state ≡ true) ks

  -- what `free_at` says of the waits
  pub record Freed (free ended : Bool) (ks : List ℕ) : Type 0 where
    pub none : NoWait ks → free ≡ true
    pub waits : (front : List ℕ) (w : ℕ) (back : List ℕ) → ks ≡ front ++ w ∷ back → b.plan.wait w ≡ true → NoWait back → (ended ≡ true) × Ended front

  empty_split : (front : List ℕ) (w : ℕ) (back : List ℕ) → [] ≡ front ++ w ∷ back → ⊥
  empty_split front w back e = omega (arith, ap length e, length-append front (w ∷ back))

  -- one child more in front
  freed_more : (k : ℕ) (ks : List ℕ) (free ended : Bool) → Freed (cond (b.plan.wait k) ended free) (ended && is_ended (at b k).state) ks → (front : List ℕ) (w : ℕ) (back : List ℕ) → k ∷ ks ≡ front ++ w ∷ back → b.plan.wait w ≡ true → NoWait back → (ended ≡ true) × Ended front
  freed_more k ks free ended rest [] w back e hw nb =
      let same : k ≡ w = cc in
      let tail : ks ≡ back = cc in
      let wait : b.plan.wait k ≡ true = ap b.plan.wait same ∙ hw in
      (sym (cond-true (b.plan.wait k) ended free wait) ∙ rest.none (subst NoWait (sym tail) nb), tt)
  freed_more k ks free ended rest (f ∷ front) w back e hw nb =
      let same : k ≡ f = cc in
      let tail : ks ≡ front ++ w ∷ back = cc in
      let more = rest.waits front w back tail hw nb in
      let both = and_parts ended (is_ended (at b k).state) more.0 in
      (both.0, (ap (λ x. is_ended (at b x).state) (sym same) ∙ both.1, more.1))

  freed : (ks : List ℕ) (free ended : Bool) → free_at free ended ks ≡ true → Freed free ended ks
  freed [] free ended h = record { none = λ _. h; waits = λ front w back e hw nb. absurd (empty_split front w back e) }
  freed (k ∷ ks) free ended h =
      let rest = freed ks (cond (b.plan.wait k) ended free) (ended && is_ended (at b k).state) h in
      record { none = λ nb. sym (cond-false (b.plan.wait k) ended free nb.0) ∙ rest.none nb.1; waits = freed_more k ks free ended rest }

  free_from : (ks : List ℕ) (free ended : Bool) → Freed free ended ks → free_at free ended ks ≡ true
  free_from [] free ended f = f.none tt
  free_from (k ∷ ks) free ended f = free_from ks _ _ (record {
    none = λ nb.
        ⊎_elim
        (λ yes-wait. cond-true (b.plan.wait k) ended free yes-wait ∙ (f.waits [] k ks refl yes-wait nb).0)
        (λ no-wait. cond-false (b.plan.wait k) ended free no-wait ∙ f.none (no-wait, nb))
        (cases_Bool (b.plan.wait k));
    waits = λ front w back e hw nb.
        let all = f.waits (k ∷ front) w back (ap (λ l. k ∷ l) e) hw nb in
        (and_from ended (is_ended (at b k).state) all.0 all.1.0, all.1.1);
  })

  -- where the search ends: at the first child that has not begun, if it is free to start
  pub record Found (free ended : Bool) (ks : List ℕ) (c : ℕ) : Type 0 where
    pub before : List ℕ
    pub after : List ℕ
    pub split : ks ≡ before ++ c ∷ after
    pub first : Each (λ k. waiting b k ≡ false) before
    pub unbegun : waiting b c ≡ true
    pub freely : free_at free ended (before ++ c ∷ []) ≡ true

  and_false : (x : Bool) → (x && false) ≡ false
  and_false true = refl
  and_false false = refl

  and_true : (x : Bool) → (x && true) ≡ x
  and_true true = refl
  and_true false = refl

  -- a child that has begun, and what is found behind it
  passed : (k : ℕ) (ks : List ℕ) (free ended then : Bool) (c : ℕ) → waiting b k ≡ false → (ended && is_ended (at b k).state) ≡ then → Found (cond (b.plan.wait k) ended free) then ks c → Found free ended (k ∷ ks) c
  passed k ks free ended then c begun e f = record {
    before = k ∷ f.before;
    after = f.after;
    split = ap (λ l. k ∷ l) f.split;
    first = (begun, f.first);
    unbegun = f.unbegun;
    freely = ap (λ t. free_at (cond (b.plan.wait k) ended free) t (f.before ++ c ∷ [])) e ∙ f.freely;
  }

  -- the search at a child in this state
  at_state : (k : ℕ) (ks : List ℕ) (free ended : Bool) (c : ℕ) (s : State) → (at b k).state ≡ s → ((e : Bool) → search_children b (cond (b.plan.wait k) ended free) e ks ≡ Some c → Found (cond (b.plan.wait k) ended free) e ks c) → look s (cond (b.plan.wait k) ended free) ended k (λ e. search_children b (cond (b.plan.wait k) ended free) e ks) ≡ Some c → Found free ended (k ∷ ks) c
  at_state k ks free ended c Waiting is onward h =
      ⊎_elim
      (λ free-now.
      let got : ◌≡◌ {A = Option ℕ} (Some k) (Some c) = sym (cond-true (cond (b.plan.wait k) ended free) (Some k) None free-now) ∙ h in
      let same : k ≡ c = cc in
      record {
        before = [];
        after = ks;
        split = ap (λ x. x ∷ ks) same;
        first = tt;
        unbegun = ap (λ x. waiting b x) (sym same) ∙ ap is_waiting is;
        freely = ap (λ x. cond (b.plan.wait x) ended free) (sym same) ∙ free-now;
      })
      (λ not-Free.
      let got : ◌≡◌ {A = Option ℕ} None (Some c) = sym (cond-false (cond (b.plan.wait k) ended free) (Some k) None not-Free) ∙ h in
      let z : ◌≡◌ {A = ℕ} 0 1 = cc in absurd (omega arith))
      (cases_Bool (cond (b.plan.wait k) ended free))
  at_state k ks free ended c Running is onward h = passed k ks free ended false c (ap is_waiting is) (ap (λ s. ended && is_ended s) is ∙ and_false ended) (onward false h)
  at_state k ks free ended c Good is onward h = passed k ks free ended ended c (ap is_waiting is) (ap (λ s. ended && is_ended s) is ∙ and_true ended) (onward ended h)
  at_state k ks free ended c (Failed x) is onward h = passed k ks free ended ended c (ap is_waiting is) (ap (λ s. ended && is_ended s) is ∙ and_true ended) (onward ended h)

  search_found : (ks : List ℕ) (free ended : Bool) (c : ℕ) → search_children b free ended ks ≡ Some c → Found free ended ks c
  search_found [] free ended c h = let z : ◌≡◌ {A = ℕ} 0 1 = cc in absurd (omega arith)
  search_found (k ∷ ks) free ended c h = at_state k ks free ended c (at b k).state refl (λ e g. search_found ks (cond (b.plan.wait k) ended free) e c g) h

  -- the same the other way round: a first child that has not begun and is free is found
  from_state : (k : ℕ) (ks : List ℕ) (free ended : Bool) (c : ℕ) (s : State) → (at b k).state ≡ s → waiting b k ≡ false → ((e : Bool) → (ended && is_ended (at b k).state) ≡ e → search_children b (cond (b.plan.wait k) ended free) e ks ≡ Some c) → look s (cond (b.plan.wait k) ended free) ended k (λ e. search_children b (cond (b.plan.wait k) ended free) e ks) ≡ Some c
  from_state k ks free ended c Waiting is begun onward = let z : true ≡ false = sym (ap is_waiting is) ∙ begun in absurd (true≢false z)
  from_state k ks free ended c Running is begun onward = onward false (ap (λ s. ended && is_ended s) is ∙ and_false ended)
  from_state k ks free ended c Good is begun onward = onward ended (ap (λ s. ended && is_ended s) is ∙ and_true ended)
  from_state k ks free ended c (Failed x) is begun onward = onward ended (ap (λ s. ended && is_ended s) is ∙ and_true ended)

  at_first : (c : ℕ) (ks : List ℕ) (free ended : Bool) (s : State) → (at b c).state ≡ s → waiting b c ≡ true → cond (b.plan.wait c) ended free ≡ true → look s (cond (b.plan.wait c) ended free) ended c (λ e. search_children b (cond (b.plan.wait c) ended free) e ks) ≡ Some c
  at_first c ks free ended Waiting is unbegun freely = cond-true _ (Some c) None freely
  at_first c ks free ended Running is unbegun freely = absurd (true≢false (sym unbegun ∙ ap is_waiting is))
  at_first c ks free ended Good is unbegun freely = absurd (true≢false (sym unbegun ∙ ap is_waiting is))
  at_first c ks free ended (Failed x) is unbegun freely = absurd (true≢false (sym unbegun ∙ ap is_waiting is))

  search_finds : (before : List ℕ) (c : ℕ) (after : List ℕ) (free ended : Bool) → Each (λ k. waiting b k ≡ false) before → waiting b c ≡ true → free_at free ended (before ++ c ∷ []) ≡ true → search_children b free ended (before ++ c ∷ after) ≡ Some c
  search_finds [] c after free ended first unbegun freely = at_first c after free ended (at b c).state refl unbegun freely
  search_finds (k ∷ before) c after free ended first unbegun freely =
      from_state k (before ++ c ∷ after) free ended c (at b k).state refl first.0
      (λ e same. search_finds before c after (cond (b.plan.wait k) ended free) e first.1 unbegun (ap (λ t. free_at (cond (b.plan.wait k) ended free) t (before ++ c ∷ [])) (sym same) ∙ freely))

  -- a make that is live and not stopped is asked
  asked : (m : ℕ) → running b m ≡ true → (at b m).stopped ≡ false → startable b m ≡ search_children b true true (children b.plan m)
  asked m live going = ap (λ t. when t (λ _. search_children b true true (children b.plan m))) (and_from (running b m) (not (at b m).stopped) live (ap not going))

  pub finds : (m c : ℕ) → startable b m ≡ Some c → Startable b m c
  finds m c h =
      ⊎_elim
      (λ both.
      let parts = and_parts (running b m) (not (at b m).stopped) both in
      let going = not-true (at b m).stopped parts.1 in
      let f = search_found (children b.plan m) true true c (sym (asked m parts.0 going) ∙ h) in
      let waits = freed (f.before ++ c ∷ []) true true f.freely in
      record {
        live = parts.0;
        going = going;
        before = f.before;
        after = f.after;
        child = f.split;
        first = f.first;
        unbegun = f.unbegun;
        waits = λ front w back e hw nb. (waits.waits front w back e hw nb).1;
      })
      (λ neither. let got : ◌≡◌ {A = Option ℕ} None (Some c) = sym (ap (λ t. when t (λ _. search_children b true true (children b.plan m))) neither) ∙ h in let z : ◌≡◌ {A = ℕ} 0 1 = cc in absurd (omega arith))
      (cases_Bool (running b m && not (at b m).stopped))

  pub found : (m c : ℕ) → Startable b m c → startable b m ≡ Some c
  found m c s =
      asked m s.live s.going ∙ ap (search_children b true true) s.child
      ∙ search_finds s.before c s.after true true s.first s.unbegun
      (free_from (s.before ++ c ∷ []) true true (record { none = λ _. refl; waits = λ front w back e hw nb. (refl, s.waits front w back e hw nb) }))

-- the first answer along rising numbers that pass a test
pub record First {B : Type 0} (p : ℕ → Bool) (f : ℕ → Option B) (k n : ℕ) (y : B) : Type 0 where
  pub number : ℕ
  pub from : k ≤ number
  pub below : number < k + n
  pub passes : p number ≡ true
  pub answers : f number ≡ Some y
  pub lower : (z : ℕ) → k ≤ z → z < number → p z ≡ true → f z ≡ None

module _ {B : Type 0} (p : ℕ → Bool) (f : ℕ → Option B) where
  -- the number k gave no answer, or was not asked
  later : (k n : ℕ) (y : B) → (p k ≡ true → f k ≡ None) → First p f (k + 1) n y → First p f k (suc n) y
  later k n y none r = record {
    number = r.number;
    from = omega (arith, r.from);
    below = omega (arith, r.below);
    passes = r.passes;
    answers = r.answers;
    lower = λ z from below passes. ⊎_elim (λ here. ap f (sym here) ∙ none (ap p here ∙ passes)) (λ apart. r.lower z (omega (arith, apart)) below passes) (cases_eq k z);
  }

  first_here : (k n : ℕ) (y : B) (o : Option B) → f k ≡ o → p k ≡ true → (first_of f (those p (numbers (k + 1) n)) ≡ Some y → First p f (k + 1) n y) → or_else o (λ _. first_of f (those p (numbers (k + 1) n))) ≡ Some y → First p f k (suc n) y
  first_here k n y None is passes onward h = later k n y (λ _. is) (onward h)
  first_here k n y (Some x) is passes onward h = record {
    number = k;
    from = omega arith;
    below = omega arith;
    passes = passes;
    answers = is ∙ h;
    lower = λ z from below _. absurd (omega arith);
  }

  first_from : (n k : ℕ) (y : B) → first_of f (those p (numbers k n)) ≡ Some y → First p f k n y
  first_from zero k y h = let z : ◌≡◌ {A = ℕ} 0 1 = cc in absurd (omega arith)
  first_from (suc n) k y h =
      let asked-rest = those p (numbers (k + 1) n) in
      ⊎_elim
      (λ passes. first_here k n y (f k) refl passes (first_from n (k + 1) y) (sym (ap (λ t. first_of f (put_if t k asked-rest)) passes) ∙ h))
      (λ fails. later k n y (λ passes. absurd (both_ways (p k) fails passes)) (first_from n (k + 1) y (sym (ap (λ t. first_of f (put_if t k asked-rest)) fails) ∙ h)))
      (cases_Bool (p k))

  none_here : (k : ℕ) (rest : List ℕ) (o : Option B) → f k ≡ o → or_else o (λ _. first_of f rest) ≡ None → (f k ≡ None) × (first_of f rest ≡ None)
  none_here k rest None is h = (is, h)
  none_here k rest (Some x) is h = let z : ◌≡◌ {A = ℕ} 0 1 = cc in absurd (omega arith)

  none_from : (n k : ℕ) → first_of f (those p (numbers k n)) ≡ None → (z : ℕ) → k ≤ z → z < k + n → p z ≡ true → f z ≡ None
  none_from zero k h z from below passes = absurd (omega arith)
  none_from (suc n) k h z from below passes =
      let rest = those p (numbers (k + 1) n) in
      ⊎_elim
      (λ here.
      let first = ap p here ∙ passes in
      ap f (sym here) ∙ (none_here k rest (f k) refl (sym (ap (λ t. first_of f (put_if t k rest)) first) ∙ h)).0)
      (λ apart.
      ⊎_elim
      (λ first. none_from n (k + 1) (none_here k rest (f k) refl (sym (ap (λ t. first_of f (put_if t k rest)) first) ∙ h)).1 z (omega (arith, apart)) (omega arith) passes)
      (λ fails. none_from n (k + 1) (sym (ap (λ t. first_of f (put_if t k rest)) fails) ∙ h) z (omega (arith, apart)) (omega arith) passes)
      (cases_Bool (p k)))
      (cases_eq k z)

-- the start that an answer of the search makes
start_of : (m : ℕ) (o : Option ℕ) (s : Start) → starts m o ≡ Some s → (o ≡ Some s.child) × (m ≡ s.make)
start_of m None s h = let z : ◌≡◌ {A = ℕ} 0 1 = cc in absurd (omega arith)
start_of m (Some c) s h =
    let same : ◌≡◌ {A = Start} (record { make = m; child = c }) s = cc in
    (ap (λ x. Some x.child) same, ap (λ x. x.make) same)

no_start : (m : ℕ) (o : Option ℕ) (c : ℕ) → starts m o ≡ None → o ≡ Some c → ⊥
no_start m None c h e = let z : ◌≡◌ {A = ℕ} 0 1 = cc in omega arith
no_start m (Some x) c h e = let z : ◌≡◌ {A = ℕ} 0 1 = cc in omega arith

module _ (b : Build) where
  abbrev slot_of : ℕ → Option Start
  slot_of m = when (not (has_running b m)) (λ _. starts m (startable b m))

  idle_slot : (m : ℕ) → has_running b m ≡ false → slot_of m ≡ starts m (startable b m)
  idle_slot m idle = ap (λ t. when (not t) (λ _. starts m (startable b m))) idle

  busy_slot : (m : ℕ) → has_running b m ≡ true → slot_of m ≡ None
  busy_slot m busy = ap (λ t. when (not t) (λ _. starts m (startable b m))) busy

  in_slot : (s : Start) → next_in_slot b ≡ Some s → InSlot b s
  in_slot s h =
      let r = first_from (is_make b.plan) slot_of b.plan.nodes 0 s h in
      ⊎_elim
      (λ busy. let got = sym (busy_slot r.number busy) ∙ r.answers in let z : ◌≡◌ {A = ℕ} 0 1 = cc in absurd (omega arith))
      (λ idle.
      let st = start_of r.number (startable b r.number) s (sym (idle_slot r.number idle) ∙ r.answers) in
      let same = st.1 in
      record {
        make = subst (Make b.plan) same (omega (arith, r.below), r.passes);
        idle = subst (λ m. has_running b m ≡ false) same idle;
        child = subst (λ m. Startable b m s.child) same (finds b r.number s.child st.0);
        lowest = λ m c below mk idle-m st-m. no_start m (startable b m) c (sym (idle_slot m idle-m) ∙ r.lower m (omega arith) (subst (λ n. m < n) (sym same) below) mk.1) (found b m c st-m);
      })
      (cases_Bool (has_running b r.number))

  with_token : (s : Start) → next_with_token b ≡ Some s → WithToken b s
  with_token s h =
      let r = first_from (is_make b.plan) (λ m. starts m (startable b m)) b.plan.nodes 0 s h in
      let st = start_of r.number (startable b r.number) s r.answers in
      let same = st.1 in
      record {
        make = subst (Make b.plan) same (omega (arith, r.below), r.passes);
        child = subst (λ m. Startable b m s.child) same (finds b r.number s.child st.0);
        lowest = λ m c below mk st-m. no_start m (startable b m) c (r.lower m (omega arith) (subst (λ n. m < n) (sym same) below) mk.1) (found b m c st-m);
      }

  pub served : Served b
  served = record {
    finds = finds b;
    found = found b;
    slot = in_slot;
    no_slot = λ h m c mk idle st. no_start m (startable b m) c (sym (idle_slot m idle) ∙ none_from (is_make b.plan) slot_of b.plan.nodes 0 h m (omega arith) (omega (arith, mk.0)) mk.1) (found b m c st);
    token = with_token;
    no_token = λ h m c mk st. no_start m (startable b m) c (none_from (is_make b.plan) (λ x. starts x (startable b x)) b.plan.nodes 0 h m (omega arith) (omega (arith, mk.0)) mk.1) (found b m c st);
  }
