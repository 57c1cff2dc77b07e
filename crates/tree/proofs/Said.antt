-- What the lines of a script do where nothing forbids them.
use Rattle.std.proofs.Common.{◌≡◌, ℕ, ◌+◌, ◌<◌, ◌≤◌, Bool, false, leb, List, [], ◌∷◌, ◌++◌, length, Ok, arith}
use Rattle.std.proofs.lemmas.Bool.{lt-ltb, le-leb, ne_eqb, and_from}
use Rattle.tree.specs.Nodes.{total}
use Rattle.tree.specs.Growth.{Growth, job, make, closed, ended, job_node, make_node}

module _ (g : Growth) where
  pub job_said : (fails : Bool) (d : ℕ) → 1 ≤ d → d ≤ 999 → length g.nodes < 200 → total g.nodes + d ≤ 20000 → job fails d g ≡ Ok (record { nodes = g.nodes ++ job_node fails d g ∷ []; make = g.make; outer = g.outer; wait = false })
  job_said fails d a b n s = rw (and_from (leb 1 d) (leb d 999) (le-leb 1 d a) (le-leb d 999 b), lt-ltb (length g.nodes) 200 n, le-leb (total g.nodes + d) 20000 s)

  pub make_said : length g.outer < 7 → length g.nodes < 200 → make g ≡ Ok (record { nodes = g.nodes ++ make_node g ∷ []; make = length g.nodes; outer = g.make ∷ g.outer; wait = false })
  make_said o n = rw (lt-ltb (length g.outer) 7 o, lt-ltb (length g.nodes) 200 n)

  pub closed_said : (m : ℕ) (ms : List ℕ) → (g.make + 1 ≡ length g.nodes → ⊥) → closed g (m ∷ ms) ≡ Ok (record { nodes = g.nodes; make = m; outer = ms; wait = false })
  closed_said m ms h = rw (ne_eqb (g.make + 1) (length g.nodes) h)

  pub ended_said : (ms : List ℕ) → length ms ≡ 0 → (g.make + 1 ≡ length g.nodes → ⊥) → ended g ms ≡ Ok g.nodes
  ended_said [] e h = rw (ne_eqb (g.make + 1) (length g.nodes) h)
  ended_said (m ∷ ms) e h = absurd (omega arith)
