use Rattle.std.proofs.Common.{◌+◌, drop, Ok, ap, ◌∙◌, arith}
use Rattle.std.proofs.lemmas.Bool.{cond_below}
use Rattle.tree.specs.declared.node.Node.{Node}
use Rattle.tree.specs.declared.tree.Tree.{Tree}
use Rattle.tree.specs.Questions.{nodes_of, count_of, WholeSubtree}
use Rattle.tree.proofs.Below.{answered, front_total, node_bound, whole_subtree}
use Rattle.tree.proofs.tree.Tree.subtree_steps.Goals as goal

law : (t : Tree) → WholeSubtree t
law t = whole_subtree (nodes_of t) t.counted.0

pub returns-in_err-node-clause-law : goal.returns-in_err-node-clause-law
returns-in_err-node-clause-law c = law c.args.self.now

pub returns-clause-law : goal.returns-clause-law
returns-clause-law c = law c.args.self.now

pub below-below-requires : goal.below-below-requires
below-below-requires c =
    let told = answered c.args.self.now c.args.n _ _ c.in_ok-node.ensures.result in
    record { within = omega (arith, told.0) }

pub overflow_add-result : goal.overflow_add-result
overflow_add-result c =
    let t = c.args.self.now in
    let n = c.args.n in
    let told = answered t n _ _ c.in_ok-node.ensures.result in
    omega (arith, t.counted, c.below-below.ensures.result, ap (λ (x : Node). x.steps) told.1, front_total n (drop (n + 1) (nodes_of t)), node_bound (nodes_of t) n told.0)

pub returns-clause-result : goal.returns-clause-result
returns-clause-result c =
    let t = c.args.self.now in
    let n = c.args.n in
    let told = answered t n _ _ c.in_ok-node.ensures.result in
    (λ i. Ok ((told.1 i).steps + c.below-below.ensures.result i)) ∙ cond_below n (count_of t) _ _ told.0
