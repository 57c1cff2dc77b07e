-- What a chain of the library answers, in the words of the rules. Assumes nothing.
use Rattle.std.proofs.Common.{◌≡◌, ℕ, zero, suc, ◌+◌, ◌-◌, ◌<◌, ◌≤◌, Bool, true, false, cond, ◌&&◌, ◌||◌, eqb, List, [], ◌∷◌, ◌++◌, map, reverse, take, drop, length, Some, None, Option, sym, refl, ap, ◌∙◌, subst, ⊎_elim, arith}
use Rattle.std.proofs.iter.Yields.{nat_range_steps}
use Rattle.std.specs.declared.ops.Range.{Range}
use Rattle.std.proofs.lemmas.Iterator.{YieldsList, YieldsList-from_range}
use Rattle.std.proofs.lemmas.Iterator.Search.{any_from_yields_List}
use Rattle.std.proofs.lemmas.Iterator.Consumers.{YieldsList-so_far, YieldsList-end}
use Rattle.std.proofs.lemmas.List.{take-append-drop, map-id, map-append, reverse-append}
use Rattle.std.proofs.lemmas.Bool.{cases_eq}
use Rattle.std.specs.Array.{IsFromFnResultFrom}
use Rattle.std.specs.Bool.{IsTrue}
use Rattle.std.specs.Iterator.{ChecksAny}
use Rattle.std.specs.Iterator.Runs.{SomeRun, YieldsRun, CallKeepsClosure, AllItemsGive, IsFirstToGive}
use Rattle.std.specs.List.{range_with_len, filter, list_any, slice_get, slice_index_or}
use Rattle.std.specs.Option.{MatchOption, IfSome, IsSomeAnd, option_map}
use denote.Param.Members.{Mut, Called}
use Rattle.pool.specs.Meaning.{count}
use Rattle.pool.proofs.Counts.{count_append}
use Rattle.std.proofs.lemmas.Bool.Decides.{nat_tests}
use Rattle.rules.specs.Builds.{Build, Held}
use Rattle.rules.specs.Plans.{is_make, children, all_makes}
use Rattle.rules.specs.Lists.{numbers, those, put_if, any, first_of, or_else, when}
use Rattle.build.specs.Hands.{in_hands}
use Rattle.build.specs.Models.{held}
use Rattle.build.specs.declared.tokens.Token.{Token}
use Rattle.build.proofs.Handing.{in_hands_none}

pub numbers_are : (k n : ℕ) → range_with_len k n ≡ numbers k n
numbers_are k zero = refl
numbers_are k (suc n) = ap (λ l. k ∷ l) (numbers_are (k + 1) n)

any_is : {A : Type 0} (f : A → Bool) (xs : List A) → list_any f xs ≡ any f xs
any_is f [] = refl
any_is f (x ∷ xs) = either (f x) refl (any_is f xs)
  where
    either : (t : Bool) → f x ≡ t → list_any f xs ≡ any f xs → list_any f (x ∷ xs) ≡ any f (x ∷ xs)
    either true e on = rw e refl
    either false e on = rw e on

those_are : {A : Type 0} (f : A → Bool) (xs : List A) → filter f xs ≡ those f xs
those_are f [] = refl
those_are f (x ∷ xs) = either (f x) (those_are f xs)
  where
    either : (t : Bool) → filter f xs ≡ those f xs → cond t (x ∷ filter f xs) (filter f xs) ≡ put_if t x (those f xs)
    either true on = ap (λ l. x ∷ l) on
    either false on = on

-- one of those
pub any_those : (f p : ℕ → Bool) (ks : List ℕ) → any f (those p ks) ≡ any (λ k. p k && f k) ks
any_those f p [] = refl
any_those f p (k ∷ ks) = either (p k) (f k) refl refl (any_those f p ks)
  where
    either : (t u : Bool) → p k ≡ t → f k ≡ u → any f (those p ks) ≡ any (λ x. p x && f x) ks → any f (those p (k ∷ ks)) ≡ any (λ x. p x && f x) (k ∷ ks)
    either true true e d on = rw (e, d) refl
    either true false e d on = rw (e, d) on
    either false u e d on = rw e on

-- those of those
pub those_those : {A : Type 0} (f p : A → Bool) (xs : List A) → those f (those p xs) ≡ those (λ x. p x && f x) xs
those_those f p [] = refl
those_those f p (y ∷ ys) = either (p y) (f y) refl refl (those_those f p ys)
  where
    either : (t u : Bool) → p y ≡ t → f y ≡ u → those f (those p ys) ≡ those (λ x. p x && f x) ys → those f (those p (y ∷ ys)) ≡ those (λ x. p x && f x) (y ∷ ys)
    either true true e d on = rw (e, d) (ap (λ l. y ∷ l) on)
    either true false e d on = rw (e, d) on
    either false u e d on = rw e on

-- the first answer of those
pub first_those : {B : Type 0} (f : ℕ → Option B) (p : ℕ → Bool) (ks : List ℕ) → first_of f (those p ks) ≡ first_of (λ k. when (p k) (λ _. f k)) ks
first_those f p [] = refl
first_those {B} f p (k ∷ ks) = either (p k) refl (first_those f p ks)
  where
    either : (t : Bool) → p k ≡ t → first_of f (those p ks) ≡ first_of (λ x. when (p x) (λ _. f x)) ks → first_of f (those p (k ∷ ks)) ≡ first_of (λ x. when (p x) (λ _. f x)) (k ∷ ks)
    either true e on = rw e (ap (λ o. or_else (f k) (λ _. o)) on)
    either false e on = rw e on

-- along the numbers of nodes: whether one of those passes, and how many do
pub any_number : (f p : ℕ → Bool) (k n : ℕ) → list_any (λ x. p x && f x) (range_with_len k n) ≡ any f (those p (numbers k n))
any_number f p k n = any_is (λ x. p x && f x) (range_with_len k n) ∙ ap (any (λ x. p x && f x)) (numbers_are k n) ∙ sym (any_those f p (numbers k n))

pub how_many : (f : ℕ → Bool) (k n : ℕ) → length (filter f (range_with_len k n)) ≡ length (those f (numbers k n))
how_many f k n = ap length (those_are f (range_with_len k n)) ∙ ap (λ l. length (those f l)) (numbers_are k n)

pub how_many_of : (f p : ℕ → Bool) (k n : ℕ) → length (filter (λ x. p x && f x) (range_with_len k n)) ≡ length (those f (those p (numbers k n)))
how_many_of f p k n = how_many (λ x. p x && f x) k n ∙ ap length (sym (those_those f p (numbers k n)))

pub first_number : {B : Type 0} (f : ℕ → Option B) (p : ℕ → Bool) (k n : ℕ) → first_of (λ x. when (p x) (λ _. f x)) (range_with_len k n) ≡ first_of f (those p (numbers k n))
first_number f p k n = ap (first_of (λ x. when (p x) (λ _. f x))) (numbers_are k n) ∙ sym (first_those f p (numbers k n))

-- tokens of a byte, counted oldest first
pub count_in_hand : (k : ℕ) (ts : List Token) → length (filter (λ t. eqb t.byte k) ts) ≡ in_hands k (reverse (map held ts))
count_in_hand k [] = sym (in_hands_none k)
count_in_hand k (t ∷ ts) =
    let turned = ap (in_hands k) (reverse-append (held t ∷ []) (map held ts)) in
    let last = ap (count k) (map-append (λ (h : Held). h.byte) (reverse (map held ts)) (held t ∷ [])) ∙ count_append k (map (λ (h : Held). h.byte) (reverse (map held ts))) t.byte in
    let so_far = count_in_hand k ts in
    grind (arith, nat_tests)

-- whether some token passes, looked at oldest first
any_last : {A : Type 0} (p : A → Bool) (xs : List A) (x : A) → any p (xs ++ x ∷ []) ≡ (p x || any p xs)
any_last p [] x = either (p x) refl
  where
    either : (t : Bool) → p x ≡ t → any p (x ∷ []) ≡ (p x || false)
    either true e = rw e refl
    either false e = rw e refl
any_last p (y ∷ ys) x = either (p y) (p x) refl refl (any_last p ys x)
  where
    either : (t u : Bool) → p y ≡ t → p x ≡ u → any p (ys ++ x ∷ []) ≡ (p x || any p ys) → any p (y ∷ (ys ++ x ∷ [])) ≡ (p x || any p (y ∷ ys))
    either true true e d on = rw (e, d) refl
    either true false e d on = rw (e, d) refl
    either false u e d on = rw e on

pub any_in_hand : (p : Held → Bool) (ts : List Token) → list_any (λ t. p (held t)) ts ≡ any p (reverse (map held ts))
any_in_hand p [] = refl
any_in_hand p (t ∷ ts) = ap (λ b. p (held t) || b) (any_in_hand p ts) ∙ sym (any_last p (reverse (map held ts)) (held t)) ∙ ap (any p) (sym (reverse-append (held t ∷ []) (map held ts)))

-- answers along a list: none anywhere, or none before place i and this one there
module _ {A C : Type 0} (h : A → Option C) where
  none_along : (xs : List A) → ((k : ℕ) → IfSome (slice_get xs k) (λ x. h x ≡ None)) → first_of h xs ≡ None
  none_along [] e = refl
  none_along (x ∷ xs) e = ap (λ o. or_else o (λ _. first_of h xs)) (e 0) ∙ none_along xs (λ k. e (suc k))

  first_along : (c : C) (xs back : List A) (i : ℕ) → ((k : ℕ) → k < i → IsSomeAnd (slice_get xs k) (λ x. h x ≡ None)) → IsSomeAnd (slice_get xs i) (λ x. h x ≡ Some c) → first_of h (xs ++ back) ≡ Some c
  first_along c [] back zero before here = absurd here
  first_along c [] back (suc i) before here = absurd here
  first_along c (x ∷ xs) back zero before here = ap (λ o. or_else o (λ _. first_of h (xs ++ back))) here
  first_along c (x ∷ xs) back (suc i) before here =
      ap (λ o. or_else o (λ _. first_of h (xs ++ back))) (before 0 (omega arith)) ∙ first_along c xs back i (λ k less. before (suc k) (omega arith)) here

-- the first answer of a closure along what an iterator gives, by what w reads of it
pub first_from_yields_List : {S A C D F : Type 0} {steps : S → Option A → S → Type 0} {g : Mut F (A × Unit {0}) (Option C)} {s : S} {all : List A} (w : C → D) (h : A → Option D) (f : F) (r : Option C) → SomeRun steps s (λ p. MatchOption r (IsTrue p.whole × AllItemsGive p g f None) (λ y. (i : ℕ) × (i < p.len) × (p.len ≡ i + 1) × IsFirstToGive p g f (Some y) None i)) → YieldsList steps (λ x. x) s all → ((x : A) (o : Option C) (q : F) → Called g f (x, tt) o q → (q ≡ f) × (option_map w o ≡ h x)) → option_map w r ≡ first_of h all
unfolding YieldsRun
first_from_yields_List {S} {A} {C} {D} {F} {steps} {g} {s} {all} w h f r (p, from, gives) road asked = read r gives
  where
    kept : CallKeepsClosure g f
    kept x o q called = (asked x.0 o q called).0

    road_here : YieldsList steps (λ x. x) p.from all
    road_here = subst (λ u. YieldsList steps (λ x. x) u all) (sym from) road

    seen : (k : ℕ) → p.at k ≡ slice_get p.items k
    seen = p.gave.1

    none_at : (o : Option A) → IfSome o (λ x. Called g f (x, tt) None f) → IfSome o (λ x. h x ≡ None)
    none_at None e = tt
    none_at (Some x) e = sym (asked x None f e).1

    given_at : (o : Option A) (y : Option C) → IsSomeAnd o (λ x. Called g f (x, tt) y f) → IsSomeAnd o (λ x. h x ≡ option_map w y)
    given_at None y e = absurd e
    given_at (Some x) y e = sym (asked x y f e).1

    read : (r : Option C) → MatchOption r (IsTrue p.whole × AllItemsGive p g f None) (λ y. (i : ℕ) × (i < p.len) × (p.len ≡ i + 1) × IsFirstToGive p g f (Some y) None i) → option_map w r ≡ first_of h all
    read None (whole, none) =
        let gave = p.gave.0 in
        let stop = gave.2 whole in
        let end = YieldsList-end road_here p.items gave.0 gave.1 None stop.0 refl stop.1 in
        sym (none_along h p.items (λ k. none_at (slice_get p.items k) (subst (λ o. IfSome o (λ x. Called g f (x, tt) None f)) (seen k) (none kept k)))) ∙ ap (first_of h) (sym (map-id p.items) ∙ end.0)
    read (Some y) (i, inside, long, first) =
        let gave = p.gave.0 in
        let front : p.items ≡ take (length p.items) all = sym (map-id p.items) ∙ YieldsList-so_far road_here p.items gave.0 gave.1 in
        let parts = first kept in
        sym (first_along h (w y) p.items (drop (length p.items) all) i
        (λ k less. given_at (slice_get p.items k) None (subst (λ o. IsSomeAnd o (λ x. Called g f (x, tt) None f)) (seen k) (parts.1 k less)))
        (given_at (slice_get p.items i) (Some y) (subst (λ o. IsSomeAnd o (λ x. Called g f (x, tt) (Some y) f)) (seen i) parts.0)))
        ∙ ap (λ l. first_of h (l ++ drop (length p.items) all)) front ∙ ap (first_of h) (take-append-drop (length p.items) all)

-- along the children of a make, and along all makes, as the code asks of each number in turn
pub any_child : {F : Type 0} {g : Mut F (ℕ × Unit {0}) Bool} (b : Build) (m : ℕ) (p : ℕ → Bool) (n : ℕ) (f : F) (s u : Range ℕ) (r : Bool) → ChecksAny nat_range_steps g s f r u → s ≡ record { start = 1; end = n } → n ≡ b.plan.nodes → ((x : ℕ) (t : Bool) (q : F) → Called g f (x, tt) t q → (q ≡ f) × (t ≡ (eqb (b.plan.make x) m && p x))) → r ≡ any p (children b.plan m)
any_child b m p n f s u r ran from all asked =
    any_from_yields_List (λ x. eqb (b.plan.make x) m && p x) u f r ran (YieldsList-from_range 1 n (n - 1) from refl) asked
    ∙ any_number p (λ k. eqb (b.plan.make k) m) 1 (n - 1)
    ∙ ap (λ j. any p (those (λ k. eqb (b.plan.make k) m) (numbers 1 (j - 1)))) all

pub first_make : {C D F : Type 0} {g : Mut F (ℕ × Unit {0}) (Option C)} (b : Build) (w : C → D) (h : ℕ → Option D) (n : ℕ) (f : F) (s : Range ℕ) (r : Option C) → SomeRun nat_range_steps s (λ p. MatchOption r (IsTrue p.whole × AllItemsGive p g f None) (λ y. (i : ℕ) × (i < p.len) × (p.len ≡ i + 1) × IsFirstToGive p g f (Some y) None i)) → s ≡ record { start = 0; end = n } → n ≡ b.plan.nodes → ((x : ℕ) (o : Option C) (q : F) → Called g f (x, tt) o q → (q ≡ f) × (option_map w o ≡ when (is_make b.plan x) (λ _. h x))) → option_map w r ≡ first_of h (all_makes b.plan)
first_make b w h n f s r runs from all asked =
    first_from_yields_List w (λ x. when (is_make b.plan x) (λ _. h x)) f r runs (YieldsList-from_range 0 n n from (omega arith)) asked
    ∙ first_number h (is_make b.plan) 0 n
    ∙ ap (λ j. first_of h (those (is_make b.plan) (numbers 0 j))) all

-- an array made by a call for each place has at each what the call answers there
pub made_from : {F B : Type 0} {g : Mut F (ℕ × Unit {0}) B} (h : ℕ → B) (f : F) (ys : List B) (i n : ℕ) → IsFromFnResultFrom g f ys i n → ((x : ℕ) (t : B) (q : F) → x < i + n → Called g f (x, tt) t q → (q ≡ f) × (t ≡ h x)) → (k : ℕ) (d : B) → i ≤ k → k < i + n → slice_index_or ys k d ≡ h k
made_from h f ys i zero made asked k d from below = absurd (omega arith)
made_from {F} {B} {g} h f ys i (suc n) (q, y, is, called, rest) asked k d from below =
    let one = asked i y q (omega arith) called in
    ⊎_elim
    (λ same. subst (λ j. slice_index_or ys j d ≡ h j) same (is.1 d ∙ one.1))
    (λ apart. made_from h q ys (i + 1) n rest (λ x t r less c. subst (λ p. Called g p (x, tt) t r → (r ≡ p) × (t ≡ h x)) (sym one.0) (asked x t r (omega (arith, less))) c) k d (omega arith) (omega arith))
    (cases_eq i k)
