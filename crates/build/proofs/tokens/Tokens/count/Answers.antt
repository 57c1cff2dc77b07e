use Rattle.std.proofs.Common.{rules, tests, eqb, ◌∙◌}
use Rattle.std.proofs.lemmas.Iterator.{YieldsList-from_slice}
use Rattle.std.proofs.lemmas.Iterator.Consumers.{YieldsList-from_filter, count_from_yields_List}
use Rattle.build.proofs.Chains.{count_in_hand}
use Rattle.build.proofs.tokens.Tokens.count.Goals as goal

pub returns : goal.returns
returns c =
    let ts = c.args.self.now.held.items in
    let byte = c.args.byte in
    count_from_yields_List c.filter.result c.count.result c.count.ensures.ran (YieldsList-from_filter _ (λ t. eqb t.byte byte) (YieldsList-from_slice ts cc) c.filter.ensures.closure (λ x t q k. search (rules, tests)))
    ∙ count_in_hand byte ts
