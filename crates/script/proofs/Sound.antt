-- The lines of a body come to its nodes.
use Rattle.std.proofs.Common.{◌≡◌, ℕ, suc, ◌+◌, ◌<◌, ◌≤◌, Bool, true, false, cond, not, eqb, List, [], ◌∷◌, ◌++◌, length, Ok, sym, refl, ap, ◌∙◌, append-nil, arith}
use Rattle.std.proofs.lemmas.List.{append_assoc, length-append, length_push}
use Rattle.std.proofs.lemmas.Bool.{eq-eqb, ne_eqb}
use Rattle.lines.specs.declared.forms.Form.{Form}
use Rattle.lines.specs.declared.forms.Form.TheVariants.{Job, Fail, Make, Done}
use Rattle.tree.specs.declared.node.Node.{Node}
use Rattle.tree.specs.declared.node.Kind.TheVariants as kind
use Rattle.tree.specs.Nodes.{total}
use Rattle.tree.specs.Growth.{kind_of_job}
use Rattle.tree.proofs.Below.{total_append}
use Rattle.tree.proofs.Push.{total_push}
use Rattle.tree.proofs.Said.{job_said, make_said, closed_said}
use Rattle.script.specs.Reading.{then, grow}
use Rattle.script.specs.Grammar.{Body, ends, wait, job, fail, make, job_of, Shallow}
use Rattle.script.proofs.Runs.{run, state, run_append}

-- a body's lines turn this state into the one with its nodes
abbrev pub Comes : List Node → ℕ → List ℕ → Bool → List Form → List Node → Type 0
Comes pre m o w fs ns = (w' : Bool) × (run (state pre m o w) fs ≡ Ok (state (pre ++ ns) m o w'))

-- within the limits, from nodes pre on
pub record Room (pre : List Node) (ns : List Node) : Type 0 where
  pub few : length pre + length ns ≤ 200
  pub sum : total pre + total ns ≤ 20000
  pub shallow : Shallow ns

total_cons : (x : Node) (xs : List Node) → total (x ∷ xs) ≡ x.steps + total xs
unfolding total
total_cons x xs = refl

room_more : (pre : List Node) (x : Node) (ns : List Node) → Room pre (x ∷ ns) → Room (pre ++ x ∷ []) ns
room_more pre x ns r =
    record { few = omega (arith, r.few, length_push pre x); sum = omega (arith, r.sum, total_push pre x, total_cons x ns); shallow = r.shallow.1 }

shallow_left : (xs ys : List Node) → Shallow (xs ++ ys) → Shallow xs
shallow_left [] ys s = tt
shallow_left (x ∷ xs) ys s = (s.0, shallow_left xs ys s.1)

shallow_right : (xs ys : List Node) → Shallow (xs ++ ys) → Shallow ys
shallow_right [] ys s = s
shallow_right (x ∷ xs) ys s = shallow_right xs ys s.1

room_left : (pre xs ys : List Node) → Room pre (xs ++ ys) → Room pre xs
room_left pre xs ys r =
    record { few = omega (arith, r.few, length-append xs ys); sum = omega (arith, r.sum, total_append xs ys); shallow = shallow_left xs ys r.shallow }

room_right : (pre xs ys : List Node) → Room pre (xs ++ ys) → Room (pre ++ xs) ys
room_right pre xs ys r =
    record { few = omega (arith, r.few, length-append xs ys, length-append pre xs); sum = omega (arith, r.sum, total_append xs ys, total_append pre xs); shallow = shallow_right xs ys r.shallow }

-- one job more
one_job : (fails : Bool) (pre : List Node) (m : ℕ) (o : List ℕ) (w : Bool) (l d : ℕ) (f : Form) (fs : List Form) (ns : List Node) → grow f (state pre m o w) ≡ Ok (state (pre ++ job_of (kind_of_job fails) m (length o) d w ∷ []) m o false) → length o ≡ l → Comes (pre ++ job_of (kind_of_job fails) m l d w ∷ []) m o false fs ns → Comes pre m o w (f ∷ fs) (job_of (kind_of_job fails) m l d w ∷ ns)
one_job fails pre m o w l d f fs ns grown e (w', rest) =
    let x = job_of (kind_of_job fails) m l d w in (
      w',
      ap (λ r. then r (λ h. run h fs)) (grown ∙ ap (λ k. Ok (state (pre ++ job_of (kind_of_job fails) m k d w ∷ []) m o false)) e) ∙
          rest ∙ ap (λ ms. Ok (state ms m o w')) (append_assoc pre (x ∷ []) ns),
    )

pub sound : {m l n : ℕ} {c w : Bool} {fs : List Form} {ns : List Node} → Body m l n c w fs ns → (pre : List Node) (o : List ℕ) → length o ≡ l → length pre ≡ n → m < n → eqb (m + 1) (length pre) ≡ not c → Room pre ns → Comes pre m o w fs ns
sound {m} {l} {n} {c} {w} ends pre o eo ep lt child room = (w, ap (λ ms. Ok (state ms m o w)) (sym (append-nil pre)))
sound {m} {l} {n} {c} {w} (wait {fs = fs} {ns = ns} body) pre o eo ep lt child room =
    let due : cond (eqb (m + 1) (length pre)) false true ≡ c = ap (λ t. cond t false true) child ∙ back c in
    let r = sound body pre o eo ep lt child room in
    (r.0, ap (λ v. run (state pre m o v) fs) due ∙ r.1)
  where
    back : (c : Bool) → cond (not c) false true ≡ c
    back true = refl
    back false = refl
sound {m} {l} {n} {c} {w} (job {d = d} {fs = fs} {ns = ns} a b body) pre o eo ep lt child room =
    let x = job_of kind.Job m l d w in
    let long = length_push pre x in
    one_job false pre m o w l d (Job d) fs ns (job_said (state pre m o w) false d a b (omega (arith, room.few)) (omega (arith, room.sum, total_cons x ns))) eo
    (sound body (pre ++ x ∷ []) o eo (long ∙ ap (λ k. k + 1) ep) (omega arith) (ne_eqb (m + 1) (length (pre ++ x ∷ [])) (λ e. omega (arith, long))) (room_more pre x ns room))
sound {m} {l} {n} {c} {w} (fail {d = d} {fs = fs} {ns = ns} a b body) pre o eo ep lt child room =
    let x = job_of kind.Fail m l d w in
    let long = length_push pre x in
    one_job true pre m o w l d (Fail d) fs ns (job_said (state pre m o w) true d a b (omega (arith, room.few)) (omega (arith, room.sum, total_cons x ns))) eo
    (sound body (pre ++ x ∷ []) o eo (long ∙ ap (λ k. k + 1) ep) (omega arith) (ne_eqb (m + 1) (length (pre ++ x ∷ [])) (λ e. omega (arith, long))) (room_more pre x ns room))
sound {m} {l} {n} {c} {w} (make {inner = inner} {fs = fs} {x = x} {xs = xs} {ns = ns} body rest) pre o eo ep lt child room =
    let mk = job_of kind.Make m (l + 1) 0 w in
    let pre' = pre ++ mk ∷ [] in
    let long = length_push pre mk in
    let room' = room_more pre mk ((x ∷ xs) ++ ns) room in
    let deep : l + 1 ≤ 7 = room.shallow.0 refl in
    let inside = sound body pre' (m ∷ o) (ap suc eo ∙ omega arith) (long ∙ ap (λ k. k + 1) ep) (omega arith) (eq-eqb (n + 1) (length pre') (omega arith)) (room_left pre' (x ∷ xs) ns room') in
    let pre'' = pre' ++ (x ∷ xs) in
    let long'' = length-append pre' (x ∷ xs) in
    let after = sound rest pre'' o eo (omega arith) (omega arith) (ne_eqb (m + 1) (length pre'') (λ e. omega arith)) (room_right pre' (x ∷ xs) ns room') in
    let opened : grow Make (state pre m o w) ≡ Ok (state pre' n (m ∷ o) false) =
    make_said (state pre m o w) (omega arith) (omega (arith, room.few)) ∙ (λ i. Ok (state (pre ++ job_of kind.Make m (eo i + 1) 0 w ∷ []) (ep i) (m ∷ o) false)) in
    let closed-up : grow Done (state pre'' n (m ∷ o) inside.0) ≡ Ok (state pre'' m o false) =
    closed_said (state pre'' n (m ∷ o) inside.0) m o (λ e. omega arith) in (
      after.0,
      ap (λ r. then r (λ h. run h (inner ++ Done ∷ fs))) opened ∙
          run_append inner (Done ∷ fs) (state pre' n (m ∷ o) false) ∙
          ap (λ r. then r (λ h. run h (Done ∷ fs))) inside.1 ∙
          ap (λ r. then r (λ h. run h fs)) closed-up ∙
          after.1 ∙
          ap (λ ms. Ok (state ms m o after.0)) (append_assoc pre' (x ∷ xs) ns ∙ append_assoc pre (mk ∷ []) ((x ∷ xs) ++ ns)),
    )
