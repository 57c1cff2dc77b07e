-- Searches along the numbers of the nodes, by what is left of them. Assumes nothing.
use Rattle.std.proofs.Common.{◌≡◌, ℕ, suc, ◌+◌, ◌-◌, ◌<◌, ◌≤◌, Bool, true, false, cond, eqb, List, [], ◌∷◌, None, Option, sym, refl, ap, ◌∙◌, arith, Some}
use Rattle.std.specs.Bool.{then_some}
use Rattle.rules.specs.Builds.{Build, at}
use Rattle.rules.specs.Lists.{numbers, those, put_if, any}
use Rattle.rules.specs.Startable.{look, search_children}
use Rattle.rules.specs.declared.progress.State.{State}
use Rattle.std.proofs.lemmas.Bool.{eq-eqb, ne_eqb}

-- what is left at k: k itself and what is left behind it, or nothing
pub numbers_more : (k n : ℕ) → k < n → numbers k (n - k) ≡ k ∷ numbers (k + 1) (n - (k + 1))
numbers_more k n h = let more : n - k ≡ suc (n - (k + 1)) = omega arith in ap (numbers k) more

pub numbers_none : (k n : ℕ) → n ≤ k → numbers k (n - k) ≡ []
numbers_none k n h = let none : n - k ≡ 0 = omega arith in ap (numbers k) none

-- one of a list: its first, or one behind it
pub any_here : {A : Type 0} (f : A → Bool) (x : A) (xs : List A) → f x ≡ true → any f (x ∷ xs) ≡ true
any_here f x xs e = rw e refl

pub any_there : {A : Type 0} (f : A → Bool) (x : A) (xs : List A) → f x ≡ false → any f (x ∷ xs) ≡ any f xs
any_there f x xs e = rw e refl

-- an answer on a condition
pub then_is : (t : Bool) (k : ℕ) → then_some t k ≡ cond t (Some k) None
then_is true k = refl
then_is false k = refl

-- the search along the children of make m, from node k on
module _ (b : Build) (m : ℕ) where
  abbrev pub sought : Bool → Bool → ℕ → Option ℕ
  sought free ended k = search_children b free ended (those (λ j. eqb (b.plan.make j) m) (numbers k (b.plan.nodes - k)))

  module _ (free ended : Bool) (k : ℕ) where
    pub sought_past : b.plan.nodes ≤ k → sought free ended k ≡ None
    sought_past h = ap (λ l. search_children b free ended (those (λ j. eqb (b.plan.make j) m) l)) (numbers_none k b.plan.nodes h)

    -- node k is no child of it
    pub sought_on : k < b.plan.nodes → (b.plan.make k ≡ m → ⊥) → sought free ended k ≡ sought free ended (k + 1)
    sought_on h e =
        ap (λ l. search_children b free ended (those (λ j. eqb (b.plan.make j) m) l)) (numbers_more k b.plan.nodes h)
        ∙ ap (λ t. search_children b free ended (put_if t k (those (λ j. eqb (b.plan.make j) m) (numbers (k + 1) (b.plan.nodes - (k + 1)))))) (ne_eqb (b.plan.make k) m e)

    -- it is one, in this state
    pub sought_at : k < b.plan.nodes → b.plan.make k ≡ m → (freed : Bool) → freed ≡ cond (b.plan.wait k) ended free → (s : State) → s ≡ (at b k).state → sought free ended k ≡ look s freed ended k (λ e. sought freed e (k + 1))
    sought_at h e freed f s g =
        ap (λ l. search_children b free ended (those (λ j. eqb (b.plan.make j) m) l)) (numbers_more k b.plan.nodes h)
        ∙ ap (λ t. search_children b free ended (put_if t k (those (λ j. eqb (b.plan.make j) m) (numbers (k + 1) (b.plan.nodes - (k + 1)))))) (eq-eqb (b.plan.make k) m e)
        ∙ (λ i. look (sym g i) (sym f i) ended k (λ e. sought (sym f i) e (k + 1)))
