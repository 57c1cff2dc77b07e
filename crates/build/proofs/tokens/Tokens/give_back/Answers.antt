use Rattle.std.proofs.Common.{◌≡◌, ◌+◌, ◌++◌, map, reverse, take, drop, Some, vec_items, sym, ap, ◌∙◌, arith}
use Rattle.std.proofs.lemmas.List.{drop-map, length-map, map-append, reverse-append, take-map}
use Rattle.build.specs.Models.{held}
use Rattle.build.proofs.Shown.{stands}
use Rattle.build.proofs.tokens.Tokens.give_back.Goals as goal

pub returns : goal.returns
returns c =
    let ts = vec_items c.args.self.now.held in
    let xs = map held ts in
    let i = c.in_ok-last.last in
    let at = stands ts i c.remove.result (omega (arith, c.in_ok-last.ensures.0, length-map ts held)) c.remove.ensures.value in
    let parts : map held (take i ts ++ drop (i + 1) ts) ≡ take i xs ++ drop (i + 1) xs =
    map-append held (take i ts) (drop (i + 1) ts) ∙ (λ j. sym (take-map held i ts) j ++ sym (drop-map held (i + 1) ts) j) in
    let left = ap (λ l. reverse (map held l)) c.remove.ensures.by_index.2 ∙ ap reverse parts ∙ reverse-append (take i xs) (drop (i + 1) xs) in
    record {
      after = c.in_ok-last.ensures.1 (held c.remove.result) at.is ∙ ap (λ l. Some (c.remove.result.byte, l)) (sym left);
      capacity = c.remove.ensures.capacity;
    }
