-- Settling comes to its end: each start uses up a node that has not begun. Assumes nothing.
use Rattle.std.proofs.Common.{◌≡◌, ℕ, zero, suc, ◌+◌, ◌-◌, ◌<◌, ◌≤◌, Bool, true, false, cond, eqb, List, [], ◌∷◌, ◌++◌, length, get_or, set, Some, None, Option, sym, refl, ap, ◌∙◌, subst, arith, length-set}
use Rattle.rules.specs.Builds.{Build, unbegun, is_waiting, in_state}
use Rattle.rules.specs.Lists.{numbers, those, put_if}
use Rattle.rules.specs.Settled.{SlotsUsed, Settles, Complete, slot, token, no_token, nothing}
use Rattle.rules.specs.Settling.{Store, Run, Start, next_in_slot, next_with_token, start_in_slot, start_with_token, taken, try_token, try_slot, settle_by, settle}
use Rattle.rules.specs.Words.{Each, Startable, WithToken}
use Rattle.rules.specs.declared.progress.Progress.{Progress}
use Rattle.rules.specs.declared.progress.State.TheVariants.{Running}
use Rattle.rules.proofs.Searches.{served}

-- how many nodes have not begun
left : List Progress → ℕ
left [] = 0
left (x ∷ xs) = cond (is_waiting x.state) 1 0 + left xs

left_few : (xs : List Progress) → left xs ≤ length xs
unfolding left
left_few [] = omega arith
left_few (x ∷ xs) = less (is_waiting x.state) (left_few xs)
  where
    less : (t : Bool) → left xs ≤ length xs → cond t 1 0 + left xs ≤ suc (length xs)
    less true h = omega arith
    less false h = omega arith

left_some : (xs : List Progress) (n : ℕ) → n < length xs → is_waiting (get_or xs n unbegun).state ≡ true → 0 < left xs
unfolding left
left_some [] n within w = absurd (omega arith)
left_some (x ∷ xs) zero within w = let one : ◌≡◌ {A = ℕ} (cond (is_waiting x.state) 1 0) 1 = ap (λ t. cond t 1 0) w in omega arith
left_some (x ∷ xs) (suc n) within w = omega (arith, left_some xs n (omega arith) w)

left_falls : (xs : List Progress) (n : ℕ) (y : Progress) → n < length xs → is_waiting (get_or xs n unbegun).state ≡ true → is_waiting y.state ≡ false → left (set xs n y) + 1 ≡ left xs
unfolding left
left_falls [] n y within w begun = absurd (omega arith)
left_falls (x ∷ xs) zero y within w begun =
    let one : ◌≡◌ {A = ℕ} (cond (is_waiting x.state) 1 0) 1 = ap (λ t. cond t 1 0) w in
    let none : ◌≡◌ {A = ℕ} (cond (is_waiting y.state) 1 0) 0 = ap (λ t. cond t 1 0) begun in
    omega arith
left_falls (x ∷ xs) (suc n) y within w begun = omega (arith, left_falls xs n y (omega arith) w begun)

-- numbers from k on are below the end
pub numbers_below : (k n end : ℕ) → k + n ≤ end → Each (λ x. x < end) (numbers k n)
numbers_below k zero end h = tt
numbers_below k (suc n) end h = (omega arith, numbers_below (k + 1) n end (omega arith))

each_those : (P : ℕ → Type 0) (p : ℕ → Bool) (xs : List ℕ) → Each P xs → Each P (those p xs)
each_those P p [] e = tt
each_those P p (x ∷ xs) e = put (p x) (each_those P p xs e.1)
  where
    put : (t : Bool) → Each P (those p xs) → Each P (put_if t x (those p xs))
    put true rest = (e.0, rest)
    put false rest = rest

pub each_at : (P : ℕ → Type 0) (front : List ℕ) (c : ℕ) (back : List ℕ) → Each P (front ++ c ∷ back) → P c
each_at P [] c back e = e.0
each_at P (x ∷ front) c back e = each_at P front c back e.1

-- a child is a node of the tree
pub child_inside : (b : Build) (m c : ℕ) → m < b.plan.nodes → Startable b m c → c < b.plan.nodes
child_inside b m c inside s =
    each_at (λ x. x < b.plan.nodes) s.before c s.after
    (subst (Each (λ x. x < b.plan.nodes)) s.child (each_those (λ x. x < b.plan.nodes) (λ k. eqb (b.plan.make k) m) (numbers 1 (b.plan.nodes - 1)) (numbers_below 1 (b.plan.nodes - 1) b.plan.nodes (omega arith))))

-- one start more: it used up a node that had not begun
fewer : (b : Build) (m c : ℕ) → Complete b → m < b.plan.nodes → Startable b m c → left (in_state b c Running).nodes + 1 ≡ left b.nodes
fewer b m c whole inside s = left_falls b.nodes c _ (subst (λ n. c < n) (sym whole) (child_inside b m c inside s)) s.unbegun refl

some_left : (b : Build) (m c : ℕ) → Complete b → m < b.plan.nodes → Startable b m c → 0 < left b.nodes
some_left b m c whole inside s = left_some b.nodes c (subst (λ n. c < n) (sym whole) (child_inside b m c inside s)) s.unbegun

module _ {P : Type 0} (store : Store P) where
  abbrev Onward : ℕ → Type 0
  Onward n = (r : Run P) → Complete r.build → left r.build.nodes ≤ n → Settles store r (settle_by store n r)

  by_answer : (n : ℕ) → Onward n → (r : Run P) → Complete r.build → left r.build.nodes ≤ suc n → SlotsUsed r.build → (s : Start) → WithToken r.build s → (o : Option ℕ) (p : P) → store.take r.pool ≡ (o, p) → Settles store r (taken s o p r (settle_by store n))
  by_answer n onward r whole few used s w None p e = no_token s p used w e
  by_answer n onward r whole few used s w (Some byte) p e =
      token s byte p used w e (onward (start_with_token s byte p r) (length-set _ _ _ ∙ whole) (omega (arith, fewer r.build s.make s.child whole w.make.0 w.child)))

  by_token : (n : ℕ) → Onward n → (r : Run P) → Complete r.build → left r.build.nodes ≤ suc n → SlotsUsed r.build → (o : Option Start) → next_with_token r.build ≡ o → Settles store r (try_token store o r (settle_by store n))
  by_token n onward r whole few used None e = nothing ((served r.build).no_token e)
  by_token n onward r whole few used (Some s) e = by_answer n onward r whole few used s ((served r.build).token s e) (store.take r.pool).0 (store.take r.pool).1 refl

  by_slot : (n : ℕ) → Onward n → (r : Run P) → Complete r.build → left r.build.nodes ≤ suc n → (o : Option Start) → next_in_slot r.build ≡ o → Settles store r (try_slot store o r (settle_by store n))
  by_slot n onward r whole few None e = by_token n onward r whole few ((served r.build).no_slot e) (next_with_token r.build) refl
  by_slot n onward r whole few (Some s) e =
      let i = (served r.build).slot s e in
      slot s i (onward (start_in_slot s r) (length-set _ _ _ ∙ whole) (omega (arith, fewer r.build s.make s.child whole i.make.0 i.child)))

  settles_by : (n : ℕ) → Onward n
  settles_by zero r whole few = nothing (λ m c mk st. omega (arith, some_left r.build m c whole mk.0 st))
  settles_by (suc n) r whole few = by_slot n (settles_by n) r whole few (next_in_slot r.build) refl

  pub settles : (r : Run P) → Complete r.build → Settles store r (settle store r)
  settles r whole = settles_by r.build.plan.nodes r whole (omega (arith, left_few r.build.nodes, whole))
