use Rattle.std.proofs.Common.{◌+◌, length, vec_items, sym, ◌∙◌, arith}
use Rattle.std.proofs.lemmas.Bool.{eqb-false, not-true}
use Rattle.tree.proofs.Facts.{innermost}
use Rattle.tree.proofs.growing.Growing.wait.Goals as goal

pub invariant_of-self-clause-waits : goal.invariant_of-self-clause-waits
invariant_of-self-clause-waits c w =
    let g = c.args.self.now in
    let on = innermost _ _ _ g.growable in
    omega (arith, eqb-false (g.make + 1) (length (vec_items g.nodes)) (sym c.is_childless.ensures.result ∙ not-true _ w))
