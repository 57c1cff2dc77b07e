-- A text and its lines.
use Rattle.std.proofs.Common.{◌≡◌, ℕ, true, false, cond, eqb, List, [], ◌∷◌, ◌++◌, Ok, sym, refl, ap, ◌∙◌, subst}
use Rattle.std.proofs.lemmas.Bool.{ne_eqb, both_ways, and_parts, eqb-true}
use Rattle.lines.specs.declared.forms.Form.{Form}
use Rattle.lines.specs.declared.place.Place.{Place}
use Rattle.lines.specs.Words.{parts, onto, every, line_byte}
use Rattle.lines.specs.Forms.{read_line}
use Rattle.lines.specs.Faults.{blamed}
use Rattle.lines.proofs.Runs.{some_parts}
use Rattle.tree.specs.declared.node.Node.{Node}
use Rattle.tree.specs.Growth.{Growth, finish}
use Rattle.script.specs.Reading.{then, grow, past, at_end, read_parts}
use Rattle.script.specs.Grammar.{Lines, none, line}
use Rattle.script.proofs.Bodies.{tested}
use Rattle.script.proofs.Inverse.{then_ok}
use Rattle.script.proofs.Onward.{never_unended, not_blamed, read_more}
use Rattle.script.proofs.Runs.{run}

-- the text of which these are the parts
abbrev pub unparts : List (List ℕ) → List ℕ
unparts [] = []
unparts (l ∷ []) = l
unparts (l ∷ m ∷ ls) = l ++ 10 ∷ unparts (m ∷ ls)

unparts_onto : (x : ℕ) (p : List ℕ) (ps : List (List ℕ)) → unparts (onto x (p ∷ ps)) ≡ x ∷ unparts (p ∷ ps)
unparts_onto x p [] = refl
unparts_onto x p (q ∷ ps) = refl

unparts_cons : (ps : List (List ℕ)) → (p : List ℕ) × (qs : List (List ℕ)) × (ps ≡ p ∷ qs) → unparts ([] ∷ ps) ≡ 10 ∷ unparts ps
unparts_cons ps (p, qs, e) = subst (λ r. unparts ([] ∷ r) ≡ 10 ∷ unparts r) (sym e) refl

pub unparts_parts : (text : List ℕ) → unparts (parts 10 text) ≡ text
unfolding parts
unparts_parts [] = refl
unparts_parts (x ∷ xs) =
    elim (eqb x 10) as (λ t. eqb x 10 ≡ t → unparts (cond t ([] ∷ parts 10 xs) (onto x (parts 10 xs))) ≡ x ∷ xs) [
      | true ↦ λ e. unparts_cons (parts 10 xs) (some_parts 10 xs) ∙ (λ i. sym (eqb-true x 10 e) i ∷ unparts_parts xs i)
      | false ↦ λ e. let s = some_parts 10 xs in ap (λ ps. unparts (onto x ps)) s.2 ∙ unparts_onto x s.0 s.1 ∙ ap (λ ps. x ∷ unparts ps) (sym s.2) ∙ ap (λ l. x ∷ l) (unparts_parts xs)
    ] refl

-- a line has no byte 10 in it
pub parts_line : (l rest : List ℕ) → every line_byte l ≡ true → parts 10 (l ++ 10 ∷ rest) ≡ l ∷ parts 10 rest
unfolding parts
parts_line [] rest h = refl
parts_line (x ∷ l) rest h =
    let both = and_parts (line_byte x) (every line_byte l) h in
    let apart : eqb x 10 ≡ false = ne_eqb x 10 (λ e. both_ways (line_byte x) (ap line_byte e) both.0) in
    ap (λ t. cond t ([] ∷ parts 10 (l ++ 10 ∷ rest)) (onto x (parts 10 (l ++ 10 ∷ rest)))) apart ∙ ap (onto x) (parts_line l rest both.1)

-- what is known where a text was accepted
pub record Accepted (text : List ℕ) (g : Growth) (ns : List Node) : Type 0 where
  pub forms : List Form
  pub after : Growth
  pub lines : Lines text forms
  pub ran : run g forms ≡ Ok after
  pub whole : finish after ≡ Ok ns

pub accepted : (ps : List (List ℕ)) (g : Growth) (p : Place) (ns : List Node) → read_parts g p ps ≡ Ok ns → Accepted (unparts ps) g ns
unfolding read_parts
accepted [] g p ns e = record { forms = []; after = g; lines = none; ran = refl; whole = not_blamed p (finish g) ns (sym e) }
accepted ([] ∷ []) g p ns e = record { forms = []; after = g; lines = none; ran = refl; whole = not_blamed p (finish g) ns (sym e) }
accepted ((b ∷ bs) ∷ []) g p ns e =
    let t = then_ok (read_line (b ∷ bs) false) (λ _. finish g) ns (not_blamed p (at_end (b ∷ bs) g) ns (sym e)) in
    absurd (both_ways false refl (never_unended (b ∷ bs) false t.0 t.1))
accepted (l ∷ m ∷ ls) g p ns e =
    let t = then_ok (blamed p (then (read_line l true) (λ f. grow f g))) (λ h. read_parts h (past p l) (m ∷ ls)) ns e in
    let s = then_ok (read_line l true) (λ f. grow f g) t.0 (not_blamed p (then (read_line l true) (λ f. grow f g)) t.0 (sym t.1)) in
    let r = accepted (m ∷ ls) t.0 (past p l) ns t.2 in
    record {
      forms = s.0 ∷ r.forms;
      after = r.after;
      lines = line l s.1 r.lines;
      ran = ap (λ k. then k (λ h. run h r.forms)) s.2 ∙ r.ran;
      whole = r.whole;
    }

-- lines that run to the end are accepted
pub accepts : {text : List ℕ} {fs : List Form} → Lines text fs → (g h : Growth) (p : Place) (ns : List Node) → run g fs ≡ Ok h → finish h ≡ Ok ns → read_parts g p (parts 10 text) ≡ Ok ns
unfolding read_parts parts
accepts none g h p ns e w = let same : g ≡ h = cc in ap (λ k. blamed p (finish k)) same ∙ ap (blamed p) w
accepts (line l {rest} {f} {fs} says more) g h p ns e w =
    let t = then_ok (grow f g) (λ k. run k fs) h e in
    ap (read_parts g p) (parts_line l rest (tested (every line_byte l) _ 2 f says)) ∙
    read_more g p l (parts 10 rest) (some_parts 10 rest) ∙
    ap (λ r. then (blamed p (then r (λ f. grow f g))) (λ h. read_parts h (past p l) (parts 10 rest))) says ∙
    ap (λ r. then (blamed p r) (λ h. read_parts h (past p l) (parts 10 rest))) t.1 ∙
    accepts more t.0 h (past p l) ns t.2 w
