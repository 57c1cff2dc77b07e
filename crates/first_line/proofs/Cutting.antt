-- Where a text is cut, and when all its bytes show. Assumes nothing.
use Rattle.std.proofs.Common.{◌≡◌, ℕ, zero, suc, ◌+◌, ◌-◌, ◌<◌, ◌&&◌, eqb, List, [], ◌∷◌, length, get_or, take, drop, Some, None, sym, refl, ap, ◌∙◌, add-one, arith, length-drop, take_all}
use Rattle.std.proofs.lemmas.Bool.{eq-eqb, ne_eqb, cond-true, cond-false}
use Rattle.std.specs.Char.{is_ascii_graphic}
use Rattle.std.specs.List.{list_all}
use Rattle.first_line.specs.Cuts.{before, cut_at, all_show, is_word}

-- the byte m is at i, and nowhere before
cut_there : (m : ℕ) (xs : List ℕ) (i : ℕ) → i < length xs → ((k : ℕ) → k < i → get_or xs k 0 ≡ m → ⊥) → get_or xs i 0 ≡ m → cut_at m xs ≡ Some (take i xs, drop (suc i) xs)
unfolding cut_at
cut_there m [] i within not-before here = absurd (omega arith)
cut_there m (x ∷ xs) zero within not-before here = cond-true (eqb x m) _ _ (eq-eqb x m here)
cut_there m (x ∷ xs) (suc i) within not-before here =
    cond-false (eqb x m) _ _ (ne_eqb x m (not-before 0 (omega arith))) ∙ ap (before x) (cut_there m xs i (omega arith) (λ k h. not-before (suc k) (omega arith)) here)

-- the two parts as the code takes them
pub cut_found : (m : ℕ) (xs : List ℕ) (i : ℕ) → i < length xs → ((k : ℕ) → k < i → get_or xs k 0 ≡ m → ⊥) → get_or xs i 0 ≡ m → Some (take i xs, take (length xs - (i + 1)) (drop (i + 1) xs)) ≡ cut_at m xs
cut_found m xs i within not-before here =
    let back = take_all (length xs - (i + 1)) (drop (i + 1) xs) (simp length-drop (omega arith)) in
    ap (λ l. Some (take i xs, l)) back ∙ sym (cut_there m xs i within not-before here ∙ rw add-one refl)

pub cut_none : (m : ℕ) (xs : List ℕ) → ((k : ℕ) → k < length xs → get_or xs k 0 ≡ m → ⊥) → cut_at m xs ≡ None
unfolding cut_at
cut_none m [] nowhere = refl
cut_none m (x ∷ xs) nowhere =
    cond-false (eqb x m) _ _ (ne_eqb x m (nowhere 0 (omega arith))) ∙ ap (before x) (cut_none m xs (λ k h. nowhere (suc k) (omega arith)))

-- a text that has a byte is a word where all show
pub shows : (xs : List ℕ) → list_all is_ascii_graphic xs ≡ all_show xs
unfolding all_show
shows [] = refl
shows (x ∷ xs) = ap (λ b. is_ascii_graphic x && b) (shows xs)

pub word : (xs : List ℕ) → (length xs ≡ 0 → ⊥) → list_all is_ascii_graphic xs ≡ is_word xs
word [] h = absurd (h refl)
word (x ∷ xs) h = shows (x ∷ xs)
