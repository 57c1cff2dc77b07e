use Rattle.std.proofs.Common.{rules, tests, ◌-◌, eqb, length, refl, ap, ◌∙◌}
use Rattle.rules.specs.Builds.{running}
use Rattle.rules.specs.Lists.{numbers, those}
use Rattle.std.proofs.lemmas.Iterator.{YieldsList-from_range}
use Rattle.std.proofs.lemmas.Iterator.Consumers.{YieldsList-from_filter, count_from_yields_List}
use Rattle.build.specs.Models.{model}
use Rattle.build.specs.Turns.{runs_under}
use Rattle.build.proofs.Chains.{how_many_of}
use Rattle.build.proofs.work.Work.count_under.Goals as goal

pub returns : goal.returns
returns c =
    let b = model c.args.self.now in
    let m = c.args.m in
    let n = c.count.result in
    record {
      result =
          count_from_yields_List c.filter.result c.count-2.result c.count-2.ensures.ran (YieldsList-from_filter _ (runs_under b m) (YieldsList-from_range 1 n (n - 1) (cc) refl) c.filter.ensures.closure (λ x t q k. search (rules, tests)))
          ∙ how_many_of (running b) (λ k. eqb (b.plan.make k) m) 1 (n - 1)
          ∙ ap (λ j. length (those (running b) (those (λ k. eqb (b.plan.make k) m) (numbers 1 (j - 1))))) c.count.ensures.result;
    }
