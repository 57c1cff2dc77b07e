use Rattle.std.proofs.Common.{rules, tests, ℕ, length, drop, refl, ap, ◌∙◌, arith}
use Rattle.std.proofs.lemmas.List.{length-drop}
use Rattle.std.proofs.lemmas.Iterator.{YieldsList-from_range, YieldsList-from_slice, YieldsList-from_zip, items_from_collect}
use Rattle.std.proofs.lemmas.Iterator.Consumers.{YieldsList-from_filter_map, YieldsList-at}
use Rattle.tree.specs.declared.tree.Tree.{Tree}
use Rattle.tree.specs.Questions.{nodes_of, ChildlessJob}
use Rattle.tree.proofs.Below.{answered, behind, child_of, belonging_filter, job_childless}
use Rattle.tree.proofs.tree.Tree.children.Goals as goal

law : (t : Tree) (n : ℕ) → ChildlessJob t n
law t n no-make = job_childless (nodes_of t) n t.placed no-make (drop 1 (nodes_of t)) 1 (omega arith) refl

pub returns-in_err-node-clause-law : goal.returns-in_err-node-clause-law
returns-in_err-node-clause-law c = law c.args.self.now c.args.n

pub returns-in_err-children-clause-law : goal.returns-in_err-children-clause-law
returns-in_err-children-clause-law c = law c.args.self.now c.args.n

pub returns-clause-law : goal.returns-clause-law
returns-clause-law c = law c.args.self.now c.args.n

pub returns-clause-result : goal.returns-clause-result
returns-clause-result c =
    let t = c.args.self.now in
    let rest = drop 1 (nodes_of t) in
    let inside = answered t c.args.n _ _ c.in_ok-node.ensures.result in
    let listed = items_from_collect c.collect.result c.collect.ensures.ran
    (YieldsList-from_filter_map _ (child_of c.args.n)
    (YieldsList-at c.filter_map.ensures.source (YieldsList-from_zip (YieldsList-at c.zip.ensures.first (YieldsList-from_range 1 c.count.result (length rest) refl (omega (arith, c.count.ensures.result, length-drop 1 (nodes_of t))))) (YieldsList-from_slice rest (c.zip.ensures.second.0 ∙ behind 1 _ ∙ ap (drop 1) c.deref.ensures.value))))
    c.filter_map.ensures.closure (λ x r q k. search (rules, tests))) in
    (inside.0, rw c.in_ok-children.was at listed ∙ belonging_filter c.args.n 1 rest)
