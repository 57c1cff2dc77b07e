-- What is known where a line was accepted.
use Rattle.std.proofs.Common.{◌≡◌, ℕ, ◌+◌, ◌<◌, ◌≤◌, Bool, false, ◌&&◌, ltb, leb, List, [], ◌∷◌, ◌++◌, length, Ok, Err, Result, sym, refl, arith}
use Rattle.std.proofs.lemmas.Bool.{ltb-true, leb-true, and_parts}
use Rattle.tree.specs.declared.node.Node.{Node}
use Rattle.tree.specs.Nodes.{total}
use Rattle.tree.specs.Growth as growth
use Rattle.tree.specs.Growth.{Growth, job_node, make_node, childless, closed, ended}
use Rattle.script.specs.Reading.{then}
use Rattle.script.proofs.Bodies.{passed, tested, turned, untested}
use Rattle.script.proofs.Runs.{state}

ok_same : {X : Type 0} {x y : X} → ◌≡◌ {A = Result X ℕ} (Ok x) (Ok y) → x ≡ y
ok_same {X} {x} {y} e = cc

-- what went on was right before
pub then_ok : {X Y E : Type 0} (r : Result X E) (f : X → Result Y E) (y : Y) → then r f ≡ Ok y → (x : X) × (r ≡ Ok x) × (f x ≡ Ok y)
then_ok (Ok x) f y e = (x, refl, e)
then_ok (Err v) f y e = absurd (let z : ◌≡◌ {A = ℕ} 0 1 = cc in omega arith)

module _ (g k : Growth) where
  pub record JobDone (fails : Bool) (d : ℕ) : Type 0 where
    pub low : 1 ≤ d
    pub high : d ≤ 999
    pub few : length g.nodes < 200
    pub sum : total g.nodes + d ≤ 20000
    pub is : k ≡ state (g.nodes ++ job_node fails d g ∷ []) g.make g.outer false

  pub job_done : (fails : Bool) (d : ℕ) → growth.job fails d g ≡ Ok k → JobDone fails d
  job_done fails d e =
      let a = passed (leb 1 d && leb d 999) _ 5 k e in
      let b = passed (ltb (length g.nodes) 200) _ 7 k a in
      let c = passed (leb (total g.nodes + d) 20000) _ 8 k b in
      let parts = and_parts (leb 1 d) (leb d 999) (tested (leb 1 d && leb d 999) _ 5 k e) in
      record {
        low = leb-true 1 d parts.0;
        high = leb-true d 999 parts.1;
        few = ltb-true (length g.nodes) 200 (tested (ltb (length g.nodes) 200) _ 7 k a);
        sum = leb-true (total g.nodes + d) 20000 (tested (leb (total g.nodes + d) 20000) _ 8 k b);
        is = sym (ok_same c);
      }

  pub record MakeDone : Type 0 where
    pub shallow : length g.outer < 7
    pub few : length g.nodes < 200
    pub is : k ≡ state (g.nodes ++ make_node g ∷ []) (length g.nodes) (g.make ∷ g.outer) false

  pub make_done : growth.make g ≡ Ok k → MakeDone
  make_done e =
      let a = passed (ltb (length g.outer) 7) _ 6 k e in
      let b = passed (ltb (length g.nodes) 200) _ 7 k a in
      record {
        shallow = ltb-true (length g.outer) 7 (tested (ltb (length g.outer) 7) _ 6 k e);
        few = ltb-true (length g.nodes) 200 (tested (ltb (length g.nodes) 200) _ 7 k a);
        is = sym (ok_same b);
      }

  pub record ClosedMake : Type 0 where
    pub parent : ℕ
    pub around : List ℕ
    pub outer : g.outer ≡ parent ∷ around
    pub child : childless g ≡ false
    pub is : k ≡ state g.nodes parent around false

  pub close_done : growth.done g ≡ Ok k → ClosedMake
  close_done e = from g.outer refl e
    where
      from : (ms : List ℕ) → g.outer ≡ ms → closed g ms ≡ Ok k → ClosedMake
      from [] o e = absurd (let z : ◌≡◌ {A = ℕ} 0 1 = cc (e) in omega arith)
      from (m ∷ ms) o e =
          record { parent = m; around = ms; outer = o; child = untested (childless g) _ 10 k e; is = sym (ok_same (turned (childless g) _ 10 k e)) }

-- where the end is accepted, only the top make is open, with a child
pub end_done : (g : Growth) (ns : List Node) → growth.finish g ≡ Ok ns → (g.outer ≡ []) × (childless g ≡ false) × (ns ≡ g.nodes)
end_done g ns e = from g.outer e
  where
    from : (ms : List ℕ) → ended g ms ≡ Ok ns → (ms ≡ []) × (childless g ≡ false) × (ns ≡ g.nodes)
    from [] e = (refl, untested (childless g) _ 10 ns e, sym (ok_same (turned (childless g) _ 10 ns e)))
    from (m ∷ ms) e = absurd (let z : ◌≡◌ {A = ℕ} 0 1 = cc (e) in omega arith)
