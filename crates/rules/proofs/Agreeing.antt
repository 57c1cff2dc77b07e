-- Pools compute as they are promised to behave. Assumes nothing.
use Rattle.std.proofs.Common.{◌≡◌, ℕ, zero, suc, ◌+◌, ◌-◌, Bool, true, false, leb, List, [], ◌∷◌, length, Some, None, sym, refl, ap, ◌∙◌, ⊎_elim, arith, lit<}
use Rattle.pipe.specs.Pipes.{line, out}
use Rattle.pool.specs.Meaning.{total, only}
use Rattle.pool.specs.Ways.{Ways}
use Rattle.pool.proofs.Totals.{total_more, total_only}
use Rattle.rules.specs.Agreement.{pipe_agrees, semaphore_agrees, layers_agree}
use Rattle.rules.specs.Lists.{if_so}
use Rattle.rules.specs.Stores.{give, give_plus}
use Rattle.std.proofs.lemmas.Bool.{cases_lt, cond-false, cond-true, le-leb, lt-leb}

-- what is given from a line that is known
give_none : (l : List ℕ) (n : ℕ) → length l ≡ 0 → give l n ≡ (None, record { held = l; out = n })
give_none [] n h = refl
give_none (x ∷ l) n h = absurd (omega arith)

pub pipes : pipe_agrees
pipes = record {
  none = λ p h. give_none (line p) _ h;
  gave = λ p b q h.
      let more = total_more (out p) (out q) b 1 h.0 h.2 in
      ap (λ l. give l (total (out p))) h.1 ∙ ap (λ n. (Some b, record { held = line q; out = n })) (sym more);
  back = λ p b q h.
      let less = total_more (out q) (out p) b 1 h.0 (λ k. sym (h.2 k)) in
      let fewer : total (out p) - 1 ≡ total (out q) = omega arith in
      λ i. record { held = sym h.1 i; out = fewer i };
  out = λ p. refl;
}

give_more : (m n o : ℕ) → m ≡ n + 1 → give_plus m o ≡ (Some 43, record { held = n; out = o + 1 })
give_more zero n o h = absurd (omega arith)
give_more (suc m) n o h = let same : m ≡ n = omega arith in ap (λ x. (Some 43, record { held = x; out = o + 1 })) same

pub semaphores : semaphore_agrees
semaphores = record {
  none = λ s h. ap (λ n. give_plus n (total (only 43 s.tokens_out))) h ∙ ap (λ n. (None, record { held = n; out = total (only 43 s.tokens_out) })) (sym h);
  gave = λ s b t h.
      let before = total_only 43 s.tokens_out (lit< tt) in
      let after = total_only 43 t.tokens_out (lit< tt) in
      let more : total (only 43 s.tokens_out) + 1 ≡ total (only 43 t.tokens_out) = omega (arith, h.2) in
      give_more s.tokens_in t.tokens_in _ h.1 ∙ (λ i. (Some (sym h.0 i), record { held = t.tokens_in; out = more i }));
  back = λ s b t h.
      let before = total_only 43 s.tokens_out (lit< tt) in
      let after = total_only 43 t.tokens_out (lit< tt) in
      let less : total (only 43 s.tokens_out) - 1 ≡ total (only 43 t.tokens_out) = omega (arith, h.2) in
      λ i. record { held = sym h.1 i; out = less i };
  out = λ s. refl;
}

-- a test that came out so
pub taken_so : {A : Type 0} (t : Bool) (x y : Unit {0} → A) → t ≡ true → if_so t x y ≡ x tt
taken_so t x y e = ap (λ u. if_so u x y) e

not_so : {A : Type 0} (t : Bool) (x y : Unit {0} → A) → t ≡ false → if_so t x y ≡ y tt
not_so t x y e = ap (λ u. if_so u x y) e

pub layers : {P : Type 0} (w : Ways P) (X : Type 0) → layers_agree w X
layers w X store stock below = (
  record {
    none = λ s h.
        ⊎_elim
        (λ within. not_so _ _ _ (lt-leb s.most _ (omega (arith, below.out s.below))) ∙ below.none s.below (omega (arith, below.out s.below)))
        (λ used. taken_so _ _ _ (le-leb s.most _ used))
        (cases_lt (stock s.below).out s.most);
    gave = λ s b t h. not_so _ _ _ (lt-leb s.most _ (omega (arith, h.0, below.out s.below))) ∙ below.gave s.below b t.below h.1;
    back = λ s b t h. below.back s.below b t.below h.0;
    out = λ s. below.out s.below;
  },
  record {
    none = λ s h.
        ⊎_elim
        (λ under. not_so _ _ _ (lt-leb s.limit s.reading under) ∙ below.none s.below (sym (cond-false (leb s.limit s.reading) 0 _ (lt-leb s.limit s.reading under)) ∙ h))
        (λ reached. taken_so _ _ _ (le-leb s.limit s.reading reached))
        (cases_lt s.reading s.limit);
    gave = λ s b t h.
        ⊎_elim
        (λ under. not_so _ _ _ (lt-leb s.limit s.reading under) ∙ below.gave s.below b t.below h.1)
        (λ reached. absurd (omega (arith, h.0, cond-true (leb s.limit s.reading) 0 (w.means s.below).ready (le-leb s.limit s.reading reached))))
        (cases_lt s.reading s.limit);
    back = λ s b t h. below.back s.below b t.below h.0;
    out = λ s. below.out s.below;
  },
)
