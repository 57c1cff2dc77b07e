use Rattle.std.proofs.Common.{rules, tests, ℕ, eqb, ◌∙◌}
use Rattle.std.proofs.lemmas.Iterator.{YieldsList-from_slice}
use Rattle.std.proofs.lemmas.Iterator.Consumers.{YieldsList-at, count_from_yields_List}
use Rattle.std.proofs.lemmas.Iterator.Search.{YieldsList-from_take_while}
use Rattle.std.proofs.lemmas.List.Folds.{length-prefix_len}
use Rattle.lines.proofs.Yielding.{indent_len}
use Rattle.lines.proofs.words.indent.Goals as goal

pub returns-clause-result : goal.returns-clause-result
returns-clause-result c =
    count_from_yields_List c.take_while.result _ c.count.ensures.ran
    (YieldsList-from_take_while _ (λ (x : ℕ). eqb x 32) (YieldsList-at c.take_while.ensures.source (YieldsList-from_slice c.args.bytes.now c.iter.ensures.rest)) c.take_while.ensures.closure c.take_while.ensures.done (λ x b q k. search (rules, tests))) ∙
    length-prefix_len (λ (x : ℕ). eqb x 32) c.args.bytes.now ∙ indent_len c.args.bytes.now
