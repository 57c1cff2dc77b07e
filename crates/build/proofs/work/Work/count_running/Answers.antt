use Rattle.std.proofs.Common.{rules, tests, arith, length, ap, ◌∙◌}
use Rattle.rules.specs.Lists.{numbers, those}
use Rattle.std.proofs.lemmas.Iterator.{YieldsList-from_range}
use Rattle.std.proofs.lemmas.Iterator.Consumers.{YieldsList-from_filter, count_from_yields_List}
use Rattle.build.specs.Models.{model}
use Rattle.build.specs.Turns.{runs_as_job}
use Rattle.build.proofs.Chains.{how_many}
use Rattle.build.proofs.work.Work.count_running.Goals as goal

pub returns : goal.returns
returns c =
    let b = model c.args.self.now in
    let n = c.count.result in
    count_from_yields_List c.filter.result c.count-2.result c.count-2.ensures.ran (YieldsList-from_filter _ (runs_as_job b) (YieldsList-from_range 0 n n (cc) (omega arith)) c.filter.ensures.closure (λ x t q k. search (rules, tests)))
    ∙ how_many (runs_as_job b) 0 n
    ∙ ap (λ j. length (those (runs_as_job b) (numbers 0 j))) c.count.ensures.result
