-- A text is a script of the nodes that its lines come to, and of no others.
use Rattle.std.proofs.Common.{◌≡◌, ℕ, ◌+◌, ◌<◌, ◌≤◌, Bool, true, false, cond, leb, List, [], ◌∷◌, ◌++◌, length, Ok, Err, Result, sym, refl, ap, ◌∙◌, subst, append-nil, arith}
use Rattle.std.proofs.lemmas.Bool.{le-leb, leb-true, eqb-false}
use Rattle.lines.specs.declared.forms.Form.{Form}
use Rattle.lines.specs.Words.{parts}
use Rattle.lines.specs.Faults.{Fault, fault_at}
use Rattle.tree.specs.declared.node.Node.{Node}
use Rattle.tree.specs.Nodes.{top, total}
use Rattle.tree.specs.Growth.{Growth, start, childless}
use Rattle.tree.proofs.Said.{ended_said}
use Rattle.script.specs.Grammar.{Script, Body, Lines, Shallow}
use Rattle.script.specs.Reading.{reading, read_text, first_place}
use Rattle.script.specs.Script.{Exact}
use Rattle.script.specs.Values.{nowhere}
use Rattle.script.proofs.Complete.{complete, Tail, over}
use Rattle.script.proofs.Inverse.{end_done}
use Rattle.script.proofs.Limits.{Limits, run_limits}
use Rattle.script.proofs.Runs.{state}
use Rattle.script.proofs.Sound.{Room, sound}
use Rattle.script.proofs.Texts.{unparts_parts, accepted, accepts}

total_two : (x : Node) (xs : List Node) → total (top ∷ []) + total (x ∷ xs) ≡ total (top ∷ (x ∷ xs))
unfolding total
total_two x xs = omega arith

comes_to : (text : List ℕ) (ns : List Node) → Script text ns → read_text text ≡ Ok ns
comes_to text ns s =
    let first = s.first in
    let more = s.more in
    let long = ap length s.nodes in
    let room : Room (top ∷ []) (first ∷ more) = record {
      few = omega (arith, s.few);
      sum = omega (arith, s.sum, ap total s.nodes, total_two first more);
      shallow = (subst Shallow s.nodes s.shallow).1;
    } in
    let r = sound s.body (top ∷ []) [] refl refl (omega arith) refl room in
    let h = state (top ∷ (first ∷ more)) 0 [] r.0 in
    ap (λ b. cond b (reading text start first_place) (Err (fault_at 1 nowhere))) (le-leb (length text) 16384 s.short) ∙
    accepts s.lines start h first_place ns r.1 (ended_said h [] refl (λ e. omega arith) ∙ ap Ok (sym s.nodes))

passed : (b : Bool) (r : Result (List Node) Fault) (v : Fault) (ns : List Node) → cond b r (Err v) ≡ Ok ns → (b ≡ true) × (r ≡ Ok ns)
passed true r v ns e = (refl, e)
passed false r v ns e = absurd (let z : ◌≡◌ {A = ℕ} 0 1 = cc in omega arith)

-- nothing is left where no make is around
tail_none : {n : ℕ} {fs : List Form} {ns : List Node} → Tail [] n fs ns → (fs ≡ []) × (ns ≡ [])
tail_none over = (refl, refl)

-- a body with at least one node
script_of : (text : List ℕ) (fs : List Form) (here ns : List Node) → Lines text fs → Body 0 0 1 false false fs here → 0 < length here → ns ≡ top ∷ here → length text ≤ 16384 → Limits ns → Script text ns
script_of text fs [] ns lines body some e short l = absurd (omega arith)
script_of text fs (x ∷ xs) ns lines body some e short l =
    record { forms = fs; first = x; more = xs; lines = lines; body = body; nodes = e; short = short; few = l.few; sum = l.sum; shallow = l.shallow }

start_limits : Limits start.nodes
unfolding total
start_limits = record { few = omega arith; sum = omega arith; shallow = (λ _. omega arith, tt) }

total_one : (xs : List Node) → total (top ∷ []) + total xs ≡ total (top ∷ xs)
unfolding total
total_one xs = omega arith

is_script : (text : List ℕ) (ns : List Node) → read_text text ≡ Ok ns → Script text ns
is_script text ns e =
    let short = passed (leb (length text) 16384) (reading text start first_place) (fault_at 1 nowhere) ns e in
    let a = accepted (parts 10 text) start first_place ns short.1 in
    let end = end_done a.after ns a.whole in
    let p = complete a.forms start a.after (omega arith) tt a.ran end.0 in
    let over-all = tail_none p.tail in
    let here = p.here in
    let forms : a.forms ≡ p.mine = p.forms ∙ ap (λ l. p.mine ++ l) over-all.0 ∙ append-nil p.mine in
    let nodes : a.after.nodes ≡ top ∷ here = p.nodes ∙ ap (λ l. top ∷ (here ++ l)) over-all.1 ∙ ap (λ l. top ∷ l) (append-nil here) in
    let body : Body 0 0 1 false false a.forms here = subst (λ l. Body 0 0 1 false false l here) (sym forms) p.body in
    let limits = run_limits a.forms start a.after start_limits a.ran in
    let limits' : Limits (top ∷ here) = subst Limits nodes limits in
    let room : Room (top ∷ []) here = record { few = omega (arith, limits'.few); sum = omega (arith, limits'.sum, total_one here); shallow = limits'.shallow.1 } in
    let r = sound body (top ∷ []) [] refl refl (omega arith) refl room in
    let same : state (top ∷ here) 0 [] r.0 ≡ a.after = ok_same _ _ (sym r.1 ∙ a.ran) in
    let some : (1 ≡ length (top ∷ here)) → ⊥ = eqb-false 1 (length (top ∷ here)) (ap childless same ∙ end.1) in
    script_of text a.forms here ns (subst (λ t. Lines t a.forms) (unparts_parts text) a.lines) body (omega (arith, some)) (end.2 ∙ nodes) (leb-true (length text) 16384 short.0) (subst Limits (sym end.2) limits)
  where
    ok_same : (x y : Growth) → ◌≡◌ {A = Result Growth ℕ} (Ok x) (Ok y) → x ≡ y
    ok_same x y e = cc

pub exact : (text : List ℕ) → Exact text
exact text = record {
  comes_to = comes_to text;
  is_script = is_script text;
  one_tree = λ ns ms a b. let x = comes_to text ns a in let y = comes_to text ms b in same x y;
}
  where
    same : {ns ms : List Node} → read_text text ≡ Ok ns → read_text text ≡ Ok ms → ns ≡ ms
    same {ns} {ms} x y = cc
