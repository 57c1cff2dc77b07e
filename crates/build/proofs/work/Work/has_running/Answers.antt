use Rattle.std.proofs.Common.{rules, tests}
use Rattle.rules.specs.Builds.{running}
use Rattle.build.specs.Models.{model}
use Rattle.build.proofs.Chains.{any_child}
use Rattle.build.proofs.work.Work.has_running.Goals as goal

pub returns : goal.returns
returns c =
    let b = model c.args.self.now in
    any_child b c.args.m (running b) c.count.result _ _ _ c.any.result c.any.ensures.ran (cc) c.count.ensures.result (λ x t q k. search (rules, tests))
