use Rattle.std.proofs.Common.{rules, tests}
use Rattle.rules.specs.Settling.{starts}
use Rattle.rules.specs.Startable.{startable}
use Rattle.build.specs.Models.{may_start, model}
use Rattle.build.proofs.Chains.{first_make}
use Rattle.build.proofs.work.Work.next_with_token.Goals as goal

pub returns : goal.returns
returns c =
    let b = model c.args.self.now in
    first_make b may_start (λ m. starts m (startable b m)) c.count.result _ _ c.find_map.result c.find_map.ensures.runs (cc) c.count.ensures.result (λ x o q k. search (rules, tests))
