-- Which token goes back, as counts. Assumes nothing.
use Rattle.std.proofs.Common.{◌≡◌, ℕ, ◌+◌, ◌-◌, Bool, true, false, eqb, List, [], ◌∷◌, Some, None, Option, sym, refl, ap, ◌∙◌, subst, ⊎_elim, arith}
use Rattle.law.proofs.Running.{one_true, one_false}
use Rattle.law.specs.Counts.{one_if, how_many}
use Rattle.law.specs.Sound.{tokens_with}
use Rattle.rules.specs.Builds.{Held}
use Rattle.rules.specs.Ending.{goes_back, keep_held}
use Rattle.rules.specs.Lists.{if_so}
use Rattle.std.proofs.lemmas.Bool.{cases_Bool, eqb-true}

-- a token of the make
abbrev pub of_make : ℕ → ℕ → Held
of_make m byte = record { by = m; byte = byte }

-- none goes back where the make has none
pub goes_none : (m : ℕ) (ts : List Held) → goes_back m ts ≡ None → tokens_with m ts ≡ 0
goes_none m [] e = refl
goes_none m (x ∷ ts) e = by (eqb x.by m) (goes_back m ts) refl e (goes_none m ts)
  where
    by : (t : Bool) (o : Option (ℕ × List Held)) → goes_back m ts ≡ o → if_so t (λ _. Some (x.byte, ts)) (λ _. keep_held x o) ≡ None → (goes_back m ts ≡ None → tokens_with m ts ≡ 0) → one_if t + tokens_with m ts ≡ 0
    by true o is h onward = let z : ◌≡◌ {A = ℕ} 0 1 = cc in absurd (omega arith)
    by false None is h onward = omega (arith, onward is)
    by false (Some f) is h onward = let z : ◌≡◌ {A = ℕ} 0 1 = cc in absurd (omega arith)

-- what goes back is one token of the make
pub goes_some : (m : ℕ) (ts : List Held) (f : ℕ × List Held) → goes_back m ts ≡ Some f → (p : Held → Bool) → how_many p ts ≡ how_many p f.1 + one_if (p (of_make m f.0))
goes_some m [] f e p = let z : ◌≡◌ {A = ℕ} 0 1 = cc in absurd (omega arith)
goes_some m (x ∷ ts) f e p = by (eqb x.by m) refl (goes_back m ts) refl e (goes_some m ts)
  where
    by : (t : Bool) → eqb x.by m ≡ t → (o : Option (ℕ × List Held)) → goes_back m ts ≡ o → if_so t (λ _. Some (x.byte, ts)) (λ _. keep_held x o) ≡ Some f → ((g : ℕ × List Held) → goes_back m ts ≡ Some g → (q : Held → Bool) → how_many q ts ≡ how_many q g.1 + one_if (q (of_make m g.0))) → one_if (p x) + how_many p ts ≡ how_many p f.1 + one_if (p (of_make m f.0))
    by true its o is h onward =
        let same : (x.byte, ts) ≡ f = cc in
        let held : of_make m x.byte ≡ x = ap (λ j. of_make j x.byte) (sym (eqb-true x.by m its)) in
        subst (λ g. one_if (p x) + how_many p ts ≡ how_many p g.1 + one_if (p (of_make m g.0))) same (omega (arith, ap (λ y. one_if (p y)) held))
    by false other None is h onward = let z : ◌≡◌ {A = ℕ} 0 1 = cc in absurd (omega arith)
    by false other (Some g) is h onward =
        let same : (g.0, x ∷ g.1) ≡ f = cc in
        subst (λ k. one_if (p x) + how_many p ts ≡ how_many p k.1 + one_if (p (of_make m k.0))) same (omega (arith, onward g is p))

-- the tokens that are left
abbrev pub left : Option (ℕ × List Held) → List Held → List Held
left None ts = ts
left (Some f) ts = f.1

-- they pay for the children that still run
pub paid_back : (m : ℕ) (ts : List Held) (o : Option (ℕ × List Held)) → goes_back m ts ≡ o → (before after : ℕ → ℕ) → ((j : ℕ) → tokens_with j ts ≡ before j - 1) → ((j : ℕ) → after j + one_if (eqb m j) ≡ before j) → (rest : List Held) → rest ≡ left o ts → (j : ℕ) → tokens_with j rest ≡ after j - 1
paid_back m ts None is before after paid fewer rest same j =
    let none = goes_none m ts is in
    ap (tokens_with j) same
    ∙ ⊎_elim
    (λ its. let eq : m ≡ j = eqb-true m j its in omega (arith, paid j, fewer j, one_true _ its, none, ap (λ i. tokens_with i ts) eq))
    (λ other. omega (arith, paid j, fewer j, one_false _ other))
    (cases_Bool (eqb m j))
paid_back m ts (Some f) is before after paid fewer rest same j = ap (tokens_with j) same ∙ omega (arith, paid j, fewer j, goes_some m ts f is (λ h. eqb h.by j))
