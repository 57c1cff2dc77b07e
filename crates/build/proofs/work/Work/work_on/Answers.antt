use Rattle.std.proofs.Common.{◌≡◌, sym, ap, ◌∙◌, subst, arith}
use Rattle.rules.specs.Builds.{Build, at}
use Rattle.rules.specs.Calls.{last_step}
use Rattle.rules.specs.Events.{state_of}
use Rattle.build.specs.Hands.{Backed}
use Rattle.build.specs.Models.{model}
use Rattle.build.proofs.Leading.{leads_both}
use Rattle.build.proofs.Steps.{step_leads, last_leads}
use Rattle.build.proofs.work.Work.work_on.Goals as goal

pub returns-then-progress-steps_of : goal.returns-then-progress-steps_of
returns-then-progress-steps_of g c =
    let w = g.P.Lender.ways in
    let n = c.args.n in
    let b = model c.args.self.now in
    let b' = model c.step_one.new.self in
    let stepped = c.step_one.ensures.after in
    let kept = c.end.ensures.kept in
    let last : (at b' n).done ≡ b'.plan.steps n = sym (ap (λ x. x.done) c.progress.ensures) ∙ c.if-progress-steps_of.true ∙ c.steps_of.ensures in
    record {
      after = leads_both w (last_leads w n b b' stepped.build stepped.wrote last (state_of c.last_end-how.result) (c.last_end-how.ensures ∙ ap last_step c.kind_of.ensures)) c.end.ensures.after;
      kept = record {
        backed = kept.backed;
        plan = kept.plan ∙ ap (λ (d : Build). d.plan) stepped.build;
        keep = kept.keep ∙ ap (λ (d : Build). d.keep) stepped.build;
        spent = omega (arith, kept.spent, stepped.spent);
      };
    }

pub returns-else-progress-steps_of : goal.returns-else-progress-steps_of
returns-else-progress-steps_of g c =
    let w = g.P.Lender.ways in
    let n = c.args.n in
    let b = model c.args.self.now in
    let b' = model c.step_one.new.self in
    let stepped = c.step_one.ensures.after in
    let done = ap (λ x. x.done) c.progress.ensures in
    let more : (at b' n).done ≡ b'.plan.steps n → ⊥ = λ e. c.if-progress-steps_of.false (done ∙ e ∙ sym c.steps_of.ensures) in
    record {
      after = step_leads w n b b' stepped.build stepped.wrote more;
      kept = record {
        backed = subst (Backed w _) (sym (ap (λ (d : Build). d.tokens) stepped.build)) c.requires.backed;
        plan = ap (λ (d : Build). d.plan) stepped.build;
        keep = ap (λ (d : Build). d.keep) stepped.build;
        spent = stepped.spent;
      };
    }
