-- What one more node at the end leaves true of the nodes.
use Rattle.std.proofs.Common.{◌≡◌, ℕ, ◌+◌, ◌<◌, ◌≤◌, true, false, cond, List, [], ◌∷◌, ◌++◌, length, get_or, sym, refl, ap, ◌∙◌, subst, ⊎_elim, add_assoc, arith}
use Rattle.std.proofs.lemmas.List.{get_or_append_left, get_or_push, length_push}
use Rattle.std.proofs.lemmas.Bool.{cases_lt}
use Rattle.tree.specs.declared.node.Node.{Node}
use Rattle.tree.specs.Nodes.{top, at, is_make, makes, total}
use Rattle.tree.specs.Kept.{Topped, Placed, Together, Levelled, Sized, Parted, FedBefore, MakeOn, Stacked, Rising, Open, steps_fit}

-- one more node adds its steps
pub total_push : (ns : List Node) (x : Node) → total (ns ++ x ∷ []) ≡ total ns + x.steps
unfolding total
total_push [] x = omega arith
total_push (y ∷ ns) x = ap (λ n. y.steps + n) (total_push ns x) ∙ sym (add_assoc y.steps (total ns) x.steps)

-- what holds of each old element, and of the new one, holds of each
pub each : {X : Type 0} (xs : List X) (x d : X) (P : ℕ → X → Type 0) → ((n : ℕ) → n < length xs → P n (get_or xs n d)) → P (length xs) x → (n : ℕ) → n < length (xs ++ x ∷ []) → P n (get_or (xs ++ x ∷ []) n d)
each xs x d P before here n h =
    ⊎_elim
    (λ lt. subst (P n) (sym (get_or_append_left xs (x ∷ []) d n lt)) (before n lt))
    (λ ge. let last : length xs ≡ n = omega (arith, length_push xs x) in
    subst (P n) (sym (get_or_push xs x d n last)) (subst (λ k. P k x) last here))
    (cases_lt n (length xs))

module _ (ns : List Node) (x : Node) where
  pub old : (n : ℕ) → n < length ns → at (ns ++ x ∷ []) n ≡ at ns n
  old n h = get_or_append_left ns (x ∷ []) top n h

  pub new : at (ns ++ x ∷ []) (length ns) ≡ x
  new = get_or_push ns x top (length ns) refl

  pub push_topped : 0 < length ns → Topped ns → Topped (ns ++ x ∷ [])
  push_topped h t = subst (λ y. (makes y.kind ≡ true) × (y.make ≡ 0) × (y.level ≡ 0) × (y.wait ≡ false)) (sym (old 0 h)) t

  pub push_sized : Sized ns → steps_fit x ≡ true → Sized (ns ++ x ∷ [])
  push_sized s f = each ns x top (λ _ y. steps_fit y ≡ true) s f

  pub push_parted : Parted ns → (x.wait ≡ true → x.make + 1 < length ns) → Parted (ns ++ x ∷ [])
  push_parted s f n h = each ns x top (λ n y. y.wait ≡ true → y.make + 1 < n) (λ n lt w. s n (lt, w)) f n h.0 h.1

  pub push_placed : Placed ns → x.make < length ns → is_make ns x.make ≡ true → Placed (ns ++ x ∷ [])
  push_placed s lt m n h =
      each ns x top (λ n y. 0 < n → (y.make < n) × (is_make (ns ++ x ∷ []) y.make ≡ true))
      (λ n l z. let p = s n (z, l) in (p.0, ap (λ y. makes y.kind) (old (at ns n).make (omega arith)) ∙ p.1))
      (λ z. (lt, ap (λ y. makes y.kind) (old x.make lt) ∙ m))
      n h.1 h.0

  pub push_together : Placed ns → Together ns → ((k : ℕ) → (x.make < k) × (k < length ns) → x.make ≤ (at ns k).make) → Together (ns ++ x ∷ [])
  push_together p s o n k h =
      each ns x top (λ n y. (y.make < k) → (k < n) → y.make ≤ (at (ns ++ x ∷ []) k).make)
      (λ n l a b. subst (λ y. (at ns n).make ≤ y.make) (sym (old k (omega arith))) (s n k (a, b, l)))
      (λ a b. subst (λ y. x.make ≤ y.make) (sym (old k b)) (o k (a, b)))
      n h.2 h.0 h.1

  pub push_levelled : Placed ns → Levelled ns → x.make < length ns → x.level ≡ (at ns x.make).level + cond (makes x.kind) 1 0 → x.level ≤ 7 → Levelled (ns ++ x ∷ [])
  push_levelled p s lt e le n h =
      each ns x top (λ n y. 0 < n → (y.level ≡ (at (ns ++ x ∷ []) y.make).level + cond (makes y.kind) 1 0) × (y.level ≤ 7))
      (λ n l z. let q = s n (z, l) in
      (q.0 ∙ ap (λ y. y.level + cond (is_make ns n) 1 0) (sym (old (at ns n).make (omega (arith, (p n (z, l)).0)))), q.1))
      (λ z. (e ∙ ap (λ y. y.level + cond (makes x.kind) 1 0) (sym (old x.make lt)), le))
      n h.1 h.0

  -- the make that the new node follows is the one that it belongs to
  pub push_fed : FedBefore ns → ((k : ℕ) → k + 1 ≡ length ns → is_make ns k ≡ true → x.make ≡ k) → FedBefore (ns ++ x ∷ [])
  push_fed s f m h =
      let m< : m < length ns = omega (arith, length_push ns x, h.0) in
      let mk : is_make ns m ≡ true = ap (λ y. makes y.kind) (sym (old m m<)) ∙ h.1 in
      each ns x top (λ n y. n ≡ m + 1 → y.make ≡ m)
      (λ n l e. subst (λ k. (at ns k).make ≡ m) (sym e) (s m (omega arith, mk)))
      (λ e. f m (sym e) mk)
      (m + 1) h.0 refl

  pub push_make_on : (m level : ℕ) → MakeOn ns m level → MakeOn (ns ++ x ∷ []) m level
  push_make_on m level h =
      (omega (arith, length_push ns x), ap (λ y. makes y.kind) (old m h.0) ∙ h.1, ap (λ y. y.level) (old m h.0) ∙ h.2)

  pub push_stacked : (os : List ℕ) → Stacked ns os → Stacked (ns ++ x ∷ []) os
  push_stacked os s i h = push_make_on (get_or os i 0) i (s i h)

  -- makes stay open while the new node belongs to the innermost
  pub push_opened : (os : List ℕ) → Open ns os → ((i : ℕ) → i < length os → get_or os i 0 ≤ x.make) → Open (ns ++ x ∷ []) os
  push_opened os s f i k h =
      each ns x top (λ k y. get_or os i 0 < k → get_or os i 0 ≤ y.make) (λ k l a. s i k (h.0, a, l)) (λ _. f i h.0) k h.2 h.1

-- the innermost make is the last of the open ones
pub up_to_last : (os : List ℕ) (m : ℕ) → Rising (os ++ m ∷ []) → (i : ℕ) → i < length (os ++ m ∷ []) → get_or (os ++ m ∷ []) i 0 ≤ m
up_to_last os m r i h =
    ⊎_elim
    (λ lt. let j : length os < length (os ++ m ∷ []) = omega (arith, length_push os m) in
    let b : get_or (os ++ m ∷ []) i 0 < get_or (os ++ m ∷ []) (length os) 0 = r i (length os) (lt, j) in
    let e : get_or (os ++ m ∷ []) (length os) 0 ≡ m = get_or_push os m 0 (length os) refl in omega arith)
    (λ ge. let e : get_or (os ++ m ∷ []) i 0 ≡ m = get_or_push os m 0 i (omega (arith, length_push os m)) in omega arith)
    (cases_lt i (length os))

-- one more open make, behind all others
pub rising_push : (os : List ℕ) (n : ℕ) → Rising os → ((i : ℕ) → i < length os → get_or os i 0 < n) → Rising (os ++ n ∷ [])
rising_push os n r f i j h =
    let i< : i < length os = omega (arith, length_push os n) in
    each os n 0 (λ j y. i < j → get_or (os ++ n ∷ []) i 0 < y)
    (λ j l a. subst (λ y. y < get_or os j 0) (sym (get_or_append_left os (n ∷ []) 0 i i<)) (r i j (a, l)))
    (λ a. subst (λ y. y < n) (sym (get_or_append_left os (n ∷ []) 0 i i<)) (f i i<))
    j h.1 h.0

-- fewer open makes
pub rising_pop : (os : List ℕ) (n : ℕ) → Rising (os ++ n ∷ []) → Rising os
rising_pop os n r i j h =
    let e : get_or (os ++ n ∷ []) i 0 ≡ get_or os i 0 = get_or_append_left os (n ∷ []) 0 i (omega arith) in
    let f : get_or (os ++ n ∷ []) j 0 ≡ get_or os j 0 = get_or_append_left os (n ∷ []) 0 j h.1 in
    let b : get_or (os ++ n ∷ []) i 0 < get_or (os ++ n ∷ []) j 0 = r i j (h.0, omega (arith, length_push os n)) in omega arith

pub stacked_pop : (ns : List Node) (os : List ℕ) (n : ℕ) → Stacked ns (os ++ n ∷ []) → Stacked ns os
stacked_pop ns os n s i h =
    subst (λ m. MakeOn ns m i) (get_or_append_left os (n ∷ []) 0 i h) (s i (omega (arith, length_push os n)))

pub opened_pop : (ns : List Node) (os : List ℕ) (n : ℕ) → Open ns (os ++ n ∷ []) → Open ns os
opened_pop ns os n s i k h =
    let e : get_or (os ++ n ∷ []) i 0 ≡ get_or os i 0 = get_or_append_left os (n ∷ []) 0 i h.0 in
    subst (λ m. m ≤ (at ns k).make) e (s i k (omega (arith, length_push os n), omega arith, h.2))

-- the innermost open make, from the open ones
pub last_make : (ns : List Node) (os : List ℕ) (m : ℕ) → Stacked ns (os ++ m ∷ []) → MakeOn ns m (length os)
last_make ns os m s =
    subst (λ n. MakeOn ns n (length os)) (get_or_push os m 0 (length os) refl) (s (length os) (omega (arith, length_push os m)))
