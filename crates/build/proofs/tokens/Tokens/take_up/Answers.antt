use Rattle.std.proofs.Common.{[], ◌∷◌, map, reverse, vec_items, ap, ◌∙◌}
use Rattle.std.proofs.lemmas.List.{map_push, reverse-append}
use Rattle.build.specs.Models.{held}
use Rattle.build.proofs.tokens.Tokens.take_up.Goals as goal

pub returns : goal.returns
returns c =
    let xs = vec_items c.args.self.now.held in
    record {
      after = ap (λ l. reverse (map held l)) c.push_reserved.ensures.items ∙ ap reverse (map_push held xs c.args.token) ∙ reverse-append (map held xs) (held c.args.token ∷ []);
      capacity = c.push_reserved.ensures.capacity;
    }
