use Rattle.std.proofs.Common.{rules, ◌≡◌, vec_items, sym, subst}
use Rattle.tree.specs.Questions.{fresh}
use Rattle.tree.proofs.Facts.{TreeFacts, fresh_facts}
use Rattle.tree.proofs.tree.Tree.new.Goals as goal

pub invariant_of-result : goal.invariant_of-result
invariant_of-result c =
    let two : vec_items c.in_ok-nodes.nodes ≡ fresh = search rules in
    subst (λ ns. TreeFacts ns 1) (sym two) fresh_facts
