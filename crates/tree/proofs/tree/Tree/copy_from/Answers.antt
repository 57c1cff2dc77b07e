use Rattle.std.proofs.Common.{◌≡◌, vec_items, sym, subst, arith}
use Rattle.std.proofs.lemmas.Grind.{common_steps}
use Rattle.tree.proofs.Facts.{TreeFacts, facts_of_tree}
use Rattle.tree.proofs.tree.Tree.copy_from.Goals as goal

pub invariant_of-self : goal.invariant_of-self
invariant_of-self c =
    let other = c.args.other.now in
    let value = c.deref.ensures.value in
    let more = c.extend_from_slice.ensures in
    let ok = more.succeeds (omega (arith, c.in_ok-make_room.ensures.ok)) in
    let same : vec_items c.extend_from_slice.new.self ≡ vec_items other.nodes = let h = rw ok at more.items in grind (arith, common_steps, h, value) in
    subst (λ ns. TreeFacts ns other.steps) (sym same) (facts_of_tree other)
