use Rattle.std.proofs.Common.{◌≡◌, ◌+◌, [], ◌∷◌, ◌++◌, length, vec_items, sym, ap, ◌∙◌, subst, arith}
use Rattle.std.proofs.lemmas.List.{length-reverse}
use Rattle.tree.specs.declared.node.Kind.TheVariants.{Make}
use Rattle.tree.specs.Growth.{make_node}
use Rattle.tree.specs.Grown.{growth}
use Rattle.tree.specs.Kept.{Growable}
use Rattle.tree.proofs.Facts.{opens, grown_make}
use Rattle.tree.proofs.Push.{total_push}
use Rattle.tree.proofs.growing.Growing.make.Goals as goal

pub invariant_of-self-clause-growable : goal.invariant_of-self-clause-growable
invariant_of-self-clause-growable c =
    let g = c.args.self.now in
    let ns = vec_items g.nodes in
    let new = vec_items c.push_reserved.new.self in
    let level = ap (λ n. n + 1) (c.len-outer.ensures ∙ g.outer.ok.0 ∙ sym (length-reverse (vec_items g.outer))) in
    let is : new ≡ ns ++ make_node (growth g) ∷ [] =
    c.push_reserved.ensures.items ∙
    ap (λ x. ns ++ x ∷ []) (λ i. record { kind = Make; make = g.make; level = level i; steps = 0; wait = g.wait }) in
    let long = g.nodes.ok.0 in
    let few = g.outer.ok.0 in
    let number : length ns ≡ c.len-number.result = omega arith in
    subst (λ n. Growable new (vec_items c.push_reserved-2.new.self) n) number
    (subst (λ o. Growable new o (length ns)) (sym c.push_reserved-2.ensures.items)
    (subst (λ l. Growable l (opens (vec_items g.outer) g.make) (length ns)) (sym is) (grown_make g (omega arith) (omega arith))))

pub invariant_of-self-clause-summed : goal.invariant_of-self-clause-summed
invariant_of-self-clause-summed c = grind (arith, total_push, c.push_reserved.ensures.items, c.args.self.now.summed)
