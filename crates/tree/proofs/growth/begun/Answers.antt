use Rattle.std.proofs.Common.{◌≡◌, [], ◌∷◌, ◌++◌, vec_items, sym, ap, ◌∙◌, subst, arith}
use Rattle.std.proofs.lemmas.Bool.{false≢true}
use Rattle.tree.specs.Kept.{Growable}
use Rattle.tree.specs.Nodes.{top, total}
use Rattle.tree.proofs.Facts.{start_facts}
use Rattle.tree.proofs.growth.begun.Goals as goal

pub invariant_of-result : goal.invariant_of-result
unfolding total
invariant_of-result c =
    let one : vec_items c.push_reserved.new.self ≡ top ∷ [] = c.push_reserved.ensures.items ∙ ap (λ l. l ++ top ∷ []) c.requires.empty.0 in
    record {
      room = (omega (arith, c.requires.room, c.push_reserved.ensures.capacity), omega (arith, c.requires.room));
      growable =
          subst (λ l. Growable l (vec_items c.args.outer) 0) (sym one)
          (subst (λ o. Growable (top ∷ []) o 0) (sym c.requires.empty.1) start_facts);
      summed = ap total (sym one);
      waits = λ e. absurd (false≢true e);
    }
