-- A tree as the questions about it answer: the rules read no other form of it.
use Rattle.std.specs.Prelude.{ℕ, ◌+◌, ◌-◌, ◌*◌, Bool, List, length, nat_eq}
use Rattle.rules.specs.Lists.{numbers, those}
use Rattle.tree.specs.Nodes.{at, makes, total}
use Rattle.tree.specs.declared.node.Kind.{Kind}
use Rattle.tree.specs.declared.node.Node.{Node}

-- how many nodes; and of a node its kind, its make, its level, its steps, and whether a wait stands before it
pub record Plan : Type 0 where
  pub nodes : ℕ
  pub kind : ℕ → Kind
  pub make : ℕ → ℕ
  pub level : ℕ → ℕ
  pub steps : ℕ → ℕ
  pub wait : ℕ → Bool
  pub all_steps : ℕ

-- the answers that a tree's nodes give
abbrev pub plan_of : List Node → Plan
plan_of ns = record {
  nodes = length ns;
  kind = λ n. (at ns n).kind;
  make = λ n. (at ns n).make;
  level = λ n. (at ns n).level;
  steps = λ n. (at ns n).steps;
  wait = λ n. (at ns n).wait;
  all_steps = total ns;
}

-- whether node n is a make
abbrev pub is_make : Plan → ℕ → Bool
is_make t n = makes (t.kind n)

-- the makes, in rising number
abbrev pub all_makes : Plan → List ℕ
all_makes t = those (is_make t) (numbers 0 t.nodes)

-- the children of a make, in rising number
abbrev pub children : Plan → ℕ → List ℕ
children t m = those (λ k. nat_eq (t.make k) m) (numbers 1 (t.nodes - 1))

-- the bytes that a schedule of this tree needs
abbrev pub needed : Plan → ℕ
needed t = 7 + 12 * t.nodes + 2 * t.all_steps
