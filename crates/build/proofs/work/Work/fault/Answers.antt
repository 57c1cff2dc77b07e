use Rattle.std.proofs.Common.{rules, ◌≡◌, Bool, Result, subst, Ok, Err, sym, refl, ap, ◌∙◌}
use Rattle.rules.specs.Faults.{fault_by}
use Rattle.rules.specs.Lists.{if_so}
use Rattle.std.proofs.lemmas.Bool.{lt-ltb}
use Rattle.build.specs.Filling.{fault_from, Filled}
use Rattle.tree.specs.declared.questions.Unanswered.{Unanswered}
use Rattle.tree.specs.declared.questions.Unanswered.TheVariants.{NoMemory}
use Rattle.build.specs.Models.{model}
use Rattle.build.proofs.Trees.{asked_inside}
use Rattle.build.proofs.work.Work.fault.Goals as goal

pub returns-in_err-tokens : goal.returns-in_err-tokens
returns-in_err-tokens c =
    let b = model c.args.self.now in
    let n = c.args.n in
    let refused : ◌≡◌ {A = Result Bool Unanswered} (Err NoMemory) c.from_residual-in_err-tokens.result = search rules in
    let inside = lt-ltb n b.plan.nodes (asked_inside c.args.self.now.tree n _ _ c.in_ok-node.ensures) in
    record {
      after = subst (λ r. Filled b n c.args.place.now r c.args.place.now) refused (
        (
          fault_from b c.in-Some.failure,
          ap (λ t. if_so t (λ _. Ok (fault_by b b.plan.nodes n)) (λ _. Err 21)) inside ∙ ap Ok (sym c.in-Some.ensures.result),
        ),
        refl,
      );
    }
