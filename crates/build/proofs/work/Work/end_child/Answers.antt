use Rattle.std.proofs.Common.{◌≤◌, length, sym, ap, ◌∙◌, subst, arith}
use Rattle.law.specs.Answers.{answering}
use Rattle.rules.specs.Builds.{Build}
use Rattle.rules.specs.Ending.{mark, put_one}
use Rattle.rules.specs.Events.{state_of}
use Rattle.build.specs.Hands.{Backed}
use Rattle.build.specs.Models.{model}
use Rattle.build.proofs.Leading.{leads_then, leads_both}
use Rattle.build.proofs.Upwards.{ends_leads, mark_leads, marked_tokens, marked_plan, marked_keep}
use Rattle.build.proofs.Fitting.{fits}
use Rattle.build.proofs.work.Work.end_child.Goals as goal

pub put_one-requires : goal.put_one-requires
put_one-requires g c =
    let change = c.end_one.ensures.after in
    record {
      backed = subst (Backed g.P.Lender.ways c.args.pool.now) (sym (ap (λ (d : Build). d.tokens) change.build)) c.requires.backed;
      byte = omega (arith, c.requires.nodes.1, (fits c.args.self.now).small);
      room = omega (arith, change.spent, c.requires.room, c.end_one.auto.buffer);
    }

pub mark-requires : goal.mark-requires
mark-requires g c =
    let kept = c.put_one.ensures.kept in
    let nodes = ap (λ p. p.nodes) (kept.plan ∙ ap (λ (d : Build). d.plan) c.end_one.ensures.after.build) in
    record { node = omega (arith, c.requires.nodes.1) }

pub returns : goal.returns
returns g c =
    let w = g.P.Lender.ways in
    let n = c.args.end.node in
    let m = c.args.m in
    let how = c.args.end.how in
    let change = c.end_one.ensures.after in
    let kept = c.put_one.ensures.kept in
    let remade = c.mark.ensures.after in
    let b = model c.put_one.new.self in
    let ended = ends_leads w (model c.args.self.now) how n _ change.build change.wrote in
    let inside : c.put_one.new.self.written ≤ length c.put_one.new.buffer = omega (arith, kept.spent, change.spent, c.requires.room, c.end_one.auto.buffer, c.put_one.auto.buffer) in
    let marked = mark_leads w b how n m _ remade.build remade.written inside in
    record {
      after = leads_both w (leads_then w (λ r. mark (state_of how) m n (put_one answering m r)) ended) (leads_both w (leads_then w (mark (state_of how) m n) c.put_one.ensures.after) marked);
      kept = record {
        backed = subst (Backed w _) (sym (ap (λ (d : Build). d.tokens) remade.build ∙ marked_tokens how m n b)) kept.backed;
        plan = ap (λ (d : Build). d.plan) remade.build ∙ marked_plan how m n b ∙ kept.plan ∙ ap (λ (d : Build). d.plan) change.build;
        keep = ap (λ (d : Build). d.keep) remade.build ∙ marked_keep how m n b ∙ kept.keep ∙ ap (λ (d : Build). d.keep) change.build;
        spent = omega (arith, remade.spent, kept.spent, change.spent);
      };
    }
