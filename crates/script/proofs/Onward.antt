-- What one line, or the end of the text, does to what is read.
use Rattle.std.proofs.Common.{◌≡◌, ℕ, ◌+◌, ◌<◌, ◌≤◌, Bool, true, false, cond, ltb, List, [], ◌∷◌, length, take, drop, Ok, Err, Result, sym, refl, ap, ◌∙◌, subst, ⊎_elim, arith}
use Rattle.std.proofs.lemmas.List.{drop_all, drop-drop, take_all, length-drop, length-take-le}
use Rattle.std.proofs.lemmas.Bool.{cases_Bool, ltb-true, ltb-false}
use Rattle.lines.specs.declared.forms.Form.{Form}
use Rattle.lines.specs.declared.place.Place.{Place}
use Rattle.lines.specs.Words.{before, parts, every, line_byte}
use Rattle.lines.specs.Forms.{read_line}
use Rattle.lines.specs.Faults.{Fault, blamed}
use Rattle.lines.proofs.Runs.{parts_cut, parts_one, some_parts}
use Rattle.tree.specs.Growth.{Growth, finish}
use Rattle.script.specs.Reading.{then, grow, past, at_end, read_parts, reading}
use Rattle.script.specs.Steps.{Within, line_at, ended_at, Line, Ends, Faulty}

-- a line that is not ended has no form
pub never_unended : (l : List ℕ) (e : Bool) (f : Form) → read_line l e ≡ Ok f → e ≡ true
never_unended l true f h = refl
never_unended l false f h = absurd (none (every line_byte l) h)
  where
    none : (t : Bool) → cond {A = Result Form ℕ} t (Err 3) (Err 2) ≡ Ok f → ⊥
    none true e = let z : ◌≡◌ {A = ℕ} 0 1 = cc in omega arith
    none false e = let z : ◌≡◌ {A = ℕ} 0 1 = cc in omega arith

-- what was not blamed is right
pub not_blamed : {X : Type 0} (p : Place) (r : Result X ℕ) (x : X) → Ok x ≡ blamed p r → r ≡ Ok x
not_blamed p (Ok y) x e = cc
not_blamed p (Err n) x e = absurd (let z : ◌≡◌ {A = ℕ} 0 1 = cc in omega arith)

-- a fault stays, whatever follows
pub fault_stays : {X Y : Type 0} (p : Place) (r : Result X ℕ) (f : X → Result Y ℕ) (v : Fault) → blamed p r ≡ Err v → blamed p (then r f) ≡ Err v
fault_stays p (Ok x) f v e = absurd (let z : ◌≡◌ {A = ℕ} 0 1 = cc in omega arith)
fault_stays p (Err n) f v e = cc

-- an ended line, and what follows
pub read_more : (g : Growth) (p : Place) (l : List ℕ) (ps : List (List ℕ)) → (m : List ℕ) × (ms : List (List ℕ)) × (ps ≡ m ∷ ms) → read_parts g p (l ∷ ps) ≡ then (blamed p (then (read_line l true) (λ f. grow f g))) (λ h. read_parts h (past p l) ps)
unfolding read_parts
read_more g p l ps (m, ms, e) = subst (λ qs. read_parts g p (l ∷ qs) ≡ then (blamed p (then (read_line l true) (λ f. grow f g))) (λ h. read_parts h (past p l) qs)) (sym e) refl

-- a last line that is not ended
unended : (p : Place) (g : Growth) (r : List ℕ) (v : Fault) → 0 < length r → blamed p (read_line r false) ≡ Err v → blamed p (at_end r g) ≡ Err v
unended p g [] v h e = absurd (omega arith)
unended p g (b ∷ bs) v h e = fault_stays p (read_line (b ∷ bs) false) (λ _. finish g) v e

module _ (text : List ℕ) (p : Place) where
  -- the line at p is the first part of what is left
  pub first_line : ended_at text p ≡ true → parts 10 (drop p.byte text) ≡ line_at text p ∷ parts 10 (drop (past p (line_at text p)).byte text)
  first_line e =
      let r = drop p.byte text in
      let lt : before 10 r < length r = ltb-true (before 10 r) (length r) e in
      let long : length (line_at text p) ≡ before 10 r = length-take-le (before 10 r) r (omega arith) in
      parts_cut 10 r lt ∙ ap (λ l. line_at text p ∷ parts 10 l) (drop-drop (before 10 r + 1) p.byte text ∙ ap (λ k. drop k text) (omega arith))

  pub past_inside : ended_at text p ≡ true → Within text p → Within text (past p (line_at text p))
  past_inside e w =
      let r = drop p.byte text in
      let lt : before 10 r < length r = ltb-true (before 10 r) (length r) e in
      let long : length (line_at text p) ≡ before 10 r = length-take-le (before 10 r) r (omega arith) in
      record { inside = omega (arith, length-drop p.byte text); short = w.short; lines = omega (arith, w.lines) }

  -- what a line of this form does
  pub reading_line : (g : Growth) (f : Form) → Line text p f → reading text g p ≡ then (blamed p (grow f g)) (λ h. reading text h (past p (line_at text p)))
  reading_line g f line =
      ap (read_parts g p) (first_line line.0) ∙
      read_more g p (line_at text p) (parts 10 (drop (past p (line_at text p)).byte text)) (some_parts 10 (drop (past p (line_at text p)).byte text)) ∙
      ap (λ r. then (blamed p (then r (λ f. grow f g))) (λ h. reading text h (past p (line_at text p)))) line.1

  -- what the end of the text does
  pub reading_end : (g : Growth) → Ends text p → reading text g p ≡ blamed p (finish g)
  unfolding read_parts parts
  reading_end g e = ap (λ r. read_parts g p (parts 10 r)) (drop_all p.byte text e)

  -- a line with a fault ends it all
  pub reading_faulty : (g : Growth) (v : Fault) → Faulty text p v → reading text g p ≡ Err v
  unfolding read_parts
  reading_faulty g v bad =
      ⊎_elim
      (λ e. ap (read_parts g p) (first_line e) ∙
      read_more g p (line_at text p) (parts 10 (drop (past p (line_at text p)).byte text)) (some_parts 10 (drop (past p (line_at text p)).byte text)) ∙
      ap (λ r. then r (λ h. reading text h (past p (line_at text p)))) (fault_stays p (read_line (line_at text p) true) (λ f. grow f g) v (ap (λ t. blamed p (read_line (line_at text p) t)) (sym e) ∙ bad.1)))
      (λ e. let r = drop p.byte text in
      let le : length r ≤ before 10 r = ltb-false (before 10 r) (length r) e in
      let whole : line_at text p ≡ r = take_all (before 10 r) r le in
      ap (read_parts g p) (parts_one 10 r le) ∙ unended p g r v (omega (arith, length-drop p.byte text, bad.0)) ((λ i. blamed p (read_line (sym whole i) (sym e i))) ∙ bad.1))
      (cases_Bool (ended_at text p))

  -- the line that the reader finds
  pub line_found : (r l : List ℕ) (n : ℕ) (f : Form) → r ≡ drop p.byte text → n ≡ before 10 r → n ≤ length r → l ≡ take n r → Ok f ≡ blamed p (read_line l (ltb n (length r))) → Line text p f × (◌≡◌ {A = Place} (record { line = p.line + 1; byte = p.byte + n + 1 }) (past p (line_at text p)))
  line_found r l n f er en le el says =
      let cut : n ≡ before 10 (drop p.byte text) = en ∙ ap (before 10) er in
      let end : ltb n (length r) ≡ ended_at text p = λ i. ltb (cut i) (length (er i)) in
      let bytes : l ≡ line_at text p = el ∙ (λ i. take (cut i) (er i)) in
      let right = not_blamed p (read_line l (ltb n (length r))) f says in
      let ended = never_unended l (ltb n (length r)) f right in
      let long : n ≡ length (line_at text p) = sym (length-take-le n r le) ∙ (λ i. length (take (cut i) (er i))) in (
        (sym end ∙ ended, (λ i. read_line (sym bytes i) (sym ended i)) ∙ right),
        λ i. record { line = p.line + 1; byte = p.byte + long i + 1 },
      )
