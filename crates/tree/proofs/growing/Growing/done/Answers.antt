use Rattle.std.proofs.Common.{◌≡◌, [], ◌∷◌, ◌++◌, vec_items, sym, subst, arith}
use Rattle.std.proofs.lemmas.Grind.{common_steps}
use Rattle.std.proofs.lemmas.Bool.{eqb-false}
use Rattle.tree.specs.Kept.{Growable}
use Rattle.tree.proofs.Facts.{done_facts}
use Rattle.tree.proofs.growing.Growing.done.Goals as goal

pub invariant_of-self-clause-growable : goal.invariant_of-self-clause-growable
invariant_of-self-clause-growable c =
    let g = c.args.self.now in
    let around = c.in_ok-around.field-0.now in
    let items : vec_items g.outer ≡ vec_items c.pop.new.self ++ around ∷ [] = grind (arith, common_steps, c.pop.ensures.items, c.pop.ensures.value 0, c.last.ensures.value, c.ok_or.ensures.value, c.deref.ensures.value) in
    done_facts _ _ around g.make (subst (λ o. Growable (vec_items g.nodes) o g.make) items g.growable) (eqb-false _ _ (sym c.if-is_childless.ensures.result))
