-- Lines that are accepted are a body, followed by the bodies of the makes around it.
use Rattle.std.proofs.Common.{◌≡◌, ℕ, suc, ◌+◌, ◌<◌, Bool, true, false, cond, not, eqb, ◌⊎◌, List, [], ◌∷◌, ◌++◌, length, Ok, sym, refl, ap, ◌∙◌, subst, inl, inr, ⊎_elim, append-nil, add-zero, arith}
use Rattle.std.proofs.lemmas.List.{append_assoc, length-append, length_push}
use Rattle.std.proofs.lemmas.Bool.{eq-eqb, ne_eqb, both_ways}
use Rattle.lines.specs.declared.forms.Form.{Form}
use Rattle.lines.specs.declared.forms.Form.TheVariants.{Job, Fail, Make, Done, Wait}
use Rattle.tree.specs.declared.node.Node.{Node}
use Rattle.tree.specs.Growth.{Growth, job_node, make_node, childless}
use Rattle.script.specs.Reading.{grow}
use Rattle.script.specs.Grammar.{Body, ends, wait, job, fail, make}
use Rattle.script.proofs.Inverse.{then_ok, job_done, make_done, close_done}
use Rattle.script.proofs.Runs.{run, state}

-- each make around stands before the one inside
abbrev pub Falling : ℕ → List ℕ → Type 0
Falling m [] = Unit {0}
Falling m (p ∷ ps) = (p < m) × Falling p ps

-- for each make around: its `done`-line of the make inside, and then the rest of its body
pub data Tail : List ℕ → ℕ → List Form → List Node → Type 0 where
  over : {n : ℕ} → Tail [] n [] []
  closing : {m n : ℕ} {ms : List ℕ} {mine theirs : List Form} {here there : List Node} → Body m (length ms) n true false mine here → Tail ms (n + length here) theirs there → Tail (m ∷ ms) n (Done ∷ (mine ++ theirs)) (here ++ there)

-- forms that are the rest of the innermost body, and of those around it
pub record Parsed (g : Growth) (fs : List Form) (final : List Node) : Type 0 where
  pub mine : List Form
  pub theirs : List Form
  pub here : List Node
  pub there : List Node
  pub forms : fs ≡ mine ++ theirs
  pub nodes : final ≡ g.nodes ++ (here ++ there)
  pub body : Body g.make (length g.outer) (length g.nodes) (not (childless g)) g.wait mine here
  pub tail : Tail g.outer (length g.nodes + length here) theirs there
  pub fed : 0 < length g.outer → (childless g ≡ false) ⊎ (0 < length here)

-- where a node stands behind the make, it has a child
has_child : (m n : ℕ) → m + 1 < n → not (eqb (m + 1) n) ≡ true
has_child m n h = ap not (ne_eqb (m + 1) n (λ e. omega arith))

with_job : (fails : Bool) (d : ℕ) (f : Form) (g : Growth) (fs : List Form) (final : List Node) → ((ms : List Form) (ns : List Node) → Body g.make (length g.outer) (length g.nodes + 1) true false ms ns → Body g.make (length g.outer) (length g.nodes) (not (childless g)) g.wait (f ∷ ms) (job_node fails d g ∷ ns)) → g.make < length g.nodes → Parsed (state (g.nodes ++ job_node fails d g ∷ []) g.make g.outer false) fs final → Parsed g (f ∷ fs) final
with_job fails d f g fs final build lt p =
    let x = job_node fails d g in
    let long = length_push g.nodes x in
    let child = has_child g.make (length (g.nodes ++ x ∷ [])) (omega arith) in
    record {
      mine = f ∷ p.mine;
      theirs = p.theirs;
      here = x ∷ p.here;
      there = p.there;
      forms = ap (λ l. f ∷ l) p.forms;
      nodes = p.nodes ∙ append_assoc g.nodes (x ∷ []) (p.here ++ p.there);
      body = build p.mine p.here (subst (λ n. Body g.make (length g.outer) n true false p.mine p.here) long (subst (λ c. Body g.make (length g.outer) (length (g.nodes ++ x ∷ [])) c false p.mine p.here) child p.body));
      tail = subst (λ n. Tail g.outer n p.theirs p.there) (omega arith) p.tail;
      fed = λ _. inr (omega arith);
    }

with_make : (g : Growth) (fs : List Form) (final : List Node) (mine theirs : List Form) (here there : List Node) → fs ≡ mine ++ theirs → final ≡ (g.nodes ++ make_node g ∷ []) ++ (here ++ there) → Body (length g.nodes) (length g.outer + 1) (length g.nodes + 1) false false mine here → Tail (g.make ∷ g.outer) (length g.nodes + 1 + length here) theirs there → 0 < length here → Parsed g (Make ∷ fs) final
with_make g fs final mine theirs [] there ef en body tail some = absurd (omega arith)
with_make g fs final mine theirs (x ∷ xs) there ef en body (closing {mine = mine₂} {theirs = theirs₂} {here = here₂} {there = there₂} body₂ tail₂) some =
    let mk = make_node g in
    record {
      mine = Make ∷ (mine ++ Done ∷ mine₂);
      theirs = theirs₂;
      here = mk ∷ ((x ∷ xs) ++ here₂);
      there = there₂;
      forms = ap (λ l. Make ∷ l) (ef ∙ sym (append_assoc mine (Done ∷ mine₂) theirs₂));
      nodes = en ∙ append_assoc g.nodes (mk ∷ []) ((x ∷ xs) ++ (here₂ ++ there₂)) ∙ ap (λ l. g.nodes ++ mk ∷ l) (sym (append_assoc (x ∷ xs) here₂ there₂));
      body = make body body₂;
      tail = subst (λ n. Tail g.outer n theirs₂ there₂) (omega (arith, length-append (x ∷ xs) here₂)) tail₂;
      fed = λ _. inr (omega arith);
    }

due : (c : Bool) → cond c false true ≡ not c
due true = refl
due false = refl

-- one form, where what follows it is parsed
module _ (fs : List Form) (g h : Growth) (lt : g.make < length g.nodes) (fall : Falling g.make g.outer) (on : (k : Growth) → k.make < length k.nodes → Falling k.make k.outer → run k fs ≡ Ok h → Parsed k fs h.nodes) where
  turn : (f : Form) (k : Growth) → grow f g ≡ Ok k → run k fs ≡ Ok h → Parsed g (f ∷ fs) h.nodes
  turn (Job d) k a b =
      let s = job_done g k false d a in
      let k' = state (g.nodes ++ job_node false d g ∷ []) g.make g.outer false in
      with_job false d (Job d) g fs h.nodes (λ _ _ r. job s.low s.high r) lt
      (on k' (omega (arith, length_push g.nodes (job_node false d g))) fall (ap (λ x. run x fs) (sym s.is) ∙ b))
  turn (Fail d) k a b =
      let s = job_done g k true d a in
      let k' = state (g.nodes ++ job_node true d g ∷ []) g.make g.outer false in
      with_job true d (Fail d) g fs h.nodes (λ _ _ r. fail s.low s.high r) lt
      (on k' (omega (arith, length_push g.nodes (job_node true d g))) fall (ap (λ x. run x fs) (sym s.is) ∙ b))
  turn Make k a b =
      let s = make_done g k a in
      let mk = make_node g in
      let long = length_push g.nodes mk in
      let k' = state (g.nodes ++ mk ∷ []) (length g.nodes) (g.make ∷ g.outer) false in
      let p = on k' (omega arith) (lt, fall) (ap (λ x. run x fs) (sym s.is) ∙ b) in
      let last : eqb (length g.nodes + 1) (length (g.nodes ++ mk ∷ [])) ≡ true = eq-eqb (length g.nodes + 1) (length (g.nodes ++ mk ∷ [])) (sym long) in
      let level : suc (length g.outer) ≡ length g.outer + 1 = omega arith in
      with_make g fs h.nodes p.mine p.theirs p.here p.there p.forms p.nodes
      (subst (λ l. Body (length g.nodes) l (length g.nodes + 1) false false p.mine p.here) level
      (subst (λ n. Body (length g.nodes) (suc (length g.outer)) n false false p.mine p.here) long
      (subst (λ c. Body (length g.nodes) (suc (length g.outer)) (length (g.nodes ++ mk ∷ [])) (not c) false p.mine p.here) last p.body)))
      (subst (λ n. Tail (g.make ∷ g.outer) (n + length p.here) p.theirs p.there) long p.tail)
      (⊎_elim (λ c. absurd (both_ways _ c last)) (λ l. l) (p.fed (omega arith)))
  turn Done k a b =
      let s = close_done g k a in
      let k' = state g.nodes s.parent s.around false in
      let below : Falling g.make (s.parent ∷ s.around) = subst (Falling g.make) s.outer fall in
      let p = on k' (omega (arith, below.0)) below.1 (ap (λ x. run x fs) (sym s.is) ∙ b) in
      let child = has_child s.parent (length g.nodes) (omega (arith, below.0)) in
      record {
        mine = [];
        theirs = Done ∷ fs;
        here = [];
        there = p.here ++ p.there;
        forms = refl;
        nodes = p.nodes;
        body = ends;
        tail = subst (λ o. Tail o (length g.nodes + length {A = Node} []) (Done ∷ fs) (p.here ++ p.there)) (sym s.outer)
            (subst (λ n. Tail (s.parent ∷ s.around) n (Done ∷ fs) (p.here ++ p.there)) (sym (add-zero (length g.nodes)))
            (subst (λ l. Tail (s.parent ∷ s.around) (length g.nodes) (Done ∷ l) (p.here ++ p.there)) (sym p.forms)
            (closing (subst (λ c. Body s.parent (length s.around) (length g.nodes) c false p.mine p.here) child p.body) p.tail)));
        fed = λ _. inl s.child;
      }
  turn Wait k a b =
      let k' = state g.nodes g.make g.outer (cond (childless g) false true) in
      let is : k' ≡ k = cc in
      let p = on k' lt fall (ap (λ x. run x fs) is ∙ b) in
      record {
        mine = Wait ∷ p.mine;
        theirs = p.theirs;
        here = p.here;
        there = p.there;
        forms = ap (λ l. Wait ∷ l) p.forms;
        nodes = p.nodes;
        body = wait (subst (λ w. Body g.make (length g.outer) (length g.nodes) (not (childless g)) w p.mine p.here) (due (childless g)) p.body);
        tail = p.tail;
        fed = p.fed;
      }

pub complete : (fs : List Form) (g h : Growth) → g.make < length g.nodes → Falling g.make g.outer → run g fs ≡ Ok h → h.outer ≡ [] → Parsed g fs h.nodes
complete [] g h lt fall e none =
    let same : g ≡ h = cc in
    let top : g.outer ≡ [] = ap (λ (k : Growth). k.outer) same ∙ none in
    record {
      mine = [];
      theirs = [];
      here = [];
      there = [];
      forms = refl;
      nodes = ap (λ (k : Growth). k.nodes) (sym same) ∙ sym (append-nil g.nodes);
      body = ends;
      tail = subst (λ o. Tail o (length g.nodes + length {A = Node} []) [] []) (sym top) over;
      fed = λ l. absurd (omega (arith, ap length top));
    }
complete (f ∷ fs) g h lt fall e none =
    let t = then_ok (grow f g) (λ k. run k fs) h e in
    turn fs g h lt fall (λ k a b c. complete fs k h a b c none) f t.0 t.1 t.2
