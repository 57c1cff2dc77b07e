-- Lines that are accepted keep within the limits.
use Rattle.std.proofs.Common.{◌≡◌, ◌+◌, ◌<◌, ◌≤◌, true, false, cond, List, [], ◌∷◌, ◌++◌, length, Ok, sym, subst, arith}
use Rattle.std.proofs.lemmas.List.{length_push}
use Rattle.std.proofs.lemmas.Bool.{both_ways}
use Rattle.lines.specs.declared.forms.Form.{Form}
use Rattle.lines.specs.declared.forms.Form.TheVariants.{Job, Fail, Make, Done, Wait}
use Rattle.tree.specs.declared.node.Node.{Node}
use Rattle.tree.specs.Nodes.{total, makes}
use Rattle.tree.specs.Growth.{Growth, job_node, make_node, childless}
use Rattle.tree.proofs.Facts.{job_no_make}
use Rattle.tree.proofs.Push.{total_push}
use Rattle.script.specs.Reading.{grow}
use Rattle.script.specs.Grammar.{Shallow}
use Rattle.script.proofs.Inverse.{then_ok, job_done, make_done, close_done}
use Rattle.script.proofs.Runs.{run, state}

pub record Limits (ns : List Node) : Type 0 where
  pub few : length ns ≤ 200
  pub sum : total ns ≤ 20000
  pub shallow : Shallow ns

shallow_push : (xs : List Node) (x : Node) → Shallow xs → (makes x.kind ≡ true → x.level ≤ 7) → Shallow (xs ++ x ∷ [])
shallow_push [] x s h = (h, tt)
shallow_push (y ∷ xs) x s h = (s.0, shallow_push xs x s.1 h)

limits_push : (ns : List Node) (x : Node) → Limits ns → length ns < 200 → total ns + x.steps ≤ 20000 → (makes x.kind ≡ true → x.level ≤ 7) → Limits (ns ++ x ∷ [])
limits_push ns x l few sum deep =
    record { few = omega (arith, length_push ns x); sum = omega (arith, total_push ns x); shallow = shallow_push ns x l.shallow deep }

grow_limits : (f : Form) (g k : Growth) → Limits g.nodes → grow f g ≡ Ok k → Limits k.nodes
grow_limits (Job d) g k l e =
    let s = job_done g k false d e in
    subst (λ (x : Growth). Limits x.nodes) (sym s.is) (limits_push g.nodes (job_node false d g) l s.few s.sum (λ m. absurd (both_ways _ (job_no_make false) m)))
grow_limits (Fail d) g k l e =
    let s = job_done g k true d e in
    subst (λ (x : Growth). Limits x.nodes) (sym s.is) (limits_push g.nodes (job_node true d g) l s.few s.sum (λ m. absurd (both_ways _ (job_no_make true) m)))
grow_limits Make g k l e =
    let s = make_done g k e in
    subst (λ (x : Growth). Limits x.nodes) (sym s.is) (limits_push g.nodes (make_node g) l s.few (omega (arith, l.sum)) (λ _. omega (arith, s.shallow)))
grow_limits Done g k l e = let s = close_done g k e in subst (λ (x : Growth). Limits x.nodes) (sym s.is) l
grow_limits Wait g k l e =
    let is : state g.nodes g.make g.outer (cond (childless g) false true) ≡ k = cc in subst (λ (x : Growth). Limits x.nodes) is l

pub run_limits : (fs : List Form) (g h : Growth) → Limits g.nodes → run g fs ≡ Ok h → Limits h.nodes
run_limits [] g h l e = let same : g ≡ h = cc in subst (λ (x : Growth). Limits x.nodes) same l
run_limits (f ∷ fs) g h l e =
    let t = then_ok (grow f g) (λ k. run k fs) h e in
    run_limits fs t.0 h (grow_limits f g t.0 l t.1) t.2
