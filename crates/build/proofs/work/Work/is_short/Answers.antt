use Rattle.std.proofs.Common.{rules, tests, sym, ◌∙◌, reverse}
use Rattle.std.proofs.lemmas.Iterator.Adapters.{YieldsList-from_rev_slice}
use Rattle.std.proofs.lemmas.Iterator.Search.{any_from_yields_List}
use Rattle.std.proofs.lemmas.List.Sorted.{IsPermutation-reverse, list_any-IsPermutation}
use Rattle.build.specs.Hands.{short_at}
use Rattle.build.specs.Models.{held, in_hand}
use Rattle.build.proofs.Chains.{any_in_hand}
use Rattle.build.proofs.work.Work.is_short.Goals as goal

pub returns : goal.returns
returns g c =
    let tokens = c.args.self.now.tokens in
    let short = short_at (in_hand tokens) (g.P.Lender.ways.means c.args.pool.now).outs in
    any_from_yields_List (λ t. short (held t)) _ _ c.any.result c.any.ensures.ran (YieldsList-from_rev_slice tokens.held.items cc) (λ x t q k. search (rules, tests))
    ∙ sym (list_any-IsPermutation (λ t. short (held t)) tokens.held.items (reverse tokens.held.items) (IsPermutation-reverse tokens.held.items))
    ∙ any_in_hand short tokens.held.items
