use Rattle.std.proofs.Common.{◌≡◌, ◌-◌, sym, ap, ◌∙◌, subst, arith}
use Rattle.rules.specs.Builds.{Build}
use Rattle.rules.specs.Ending.{finish}
use Rattle.rules.specs.Events.{state_of}
use Rattle.rules.proofs.Tales.{trees_ordered}
use Rattle.build.specs.Changes.{reach}
use Rattle.build.specs.Hands.{Backed}
use Rattle.build.specs.Models.{model}
use Rattle.build.specs.Rooms.{room}
use Rattle.build.proofs.Altering.{kept_both, noted_build}
use Rattle.build.proofs.Leading.{leads_then, leads_both}
use Rattle.build.proofs.Upwards.{ends_leads, finish_leads, top_leads, stays_leads, over_leads, over_runs}
use Rattle.build.proofs.work.Work.+end.Goals as goal

pub returns-then-end-eq0 : goal.returns-then-end-eq0
returns-then-end-eq0 g t c =
    let w = g.P.Lender.ways in
    let how = c.args.end.how in
    let change = c.end_one.ensures.after in
    let noted = c.finish.ensures.after in
    let is : model c.finish.new.self ≡ model c.end_one.new.self = noted_build noted in
    let build = is ∙ change.build in
    let ended = ends_leads w (model c.args.self.now) how c.args.end.node _ change.build change.wrote in
    record {
      after = top_leads w (state_of how) c.args.end.node _ _ c.if-end-eq0.true (leads_both w (leads_then w finish ended) (finish_leads w (model c.end_one.new.self) _ is noted.wrote));
      kept = record {
        backed = subst (Backed w _) (sym (ap (λ (d : Build). d.tokens) build)) c.requires.backed;
        plan = ap (λ (d : Build). d.plan) build;
        keep = ap (λ (d : Build). d.keep) build;
        spent = omega (arith, change.spent, noted.wrote.end, ap room is);
      };
    }

pub end-requires : goal.end-requires
end-requires g t c κs within =
    let kept = c.end_child.ensures.kept in
    let n = c.args.end.node in
    let tree = c.args.self.now.tree in
    let below = (tree.placed n (omega arith, c.requires.node)).0 in
    let nodes = ap (λ p. p.nodes) kept.plan in
    let runs = over_runs (model c.end_child.new.self) c.make_of-m.result (sym c.if-is_over.ensures) in
    (omega (arith, c.decreases), (within, (kept.backed, (omega (arith, c.requires.node), (runs, omega (arith, kept.spent, c.requires.room, c.end_child.auto.buffer))))))

pub returns-then-is_over : goal.returns-then-is_over
returns-then-is_over g t c =
    let w = g.P.Lender.ways in
    let kept = c.end_child.ensures.kept in
    let n = c.args.end.node in
    let m = c.make_of-m.result in
    let tree = c.args.self.now.tree in
    let below = (tree.placed n (omega arith, c.requires.node)).0 in
    let nodes = ap (λ p. p.nodes) kept.plan in
    record {
      after = leads_both w
          (over_leads w (state_of c.args.end.how) n _ _ (λ e. omega arith) m (sym c.make_of-m.ensures) (trees_ordered c.end_child.new.self.tree) (omega (arith, c.requires.node)) (omega arith) (sym c.if-is_over.ensures) (state_of c.make_end-how.result) c.make_end-how.ensures c.end_child.ensures.after)
          c.end.ensures.after;
      kept = kept_both (reach c.args.self.now - 2) (λ h. omega arith) kept c.end.ensures.kept;
    }

pub returns-else-is_over : goal.returns-else-is_over
returns-else-is_over g t c = record {
  after = stays_leads g.P.Lender.ways (state_of c.args.end.how) c.args.end.node _ _ (λ e. omega arith) c.make_of-m.result (sym c.make_of-m.ensures) (sym c.if-is_over.ensures) c.end_child.ensures.after;
  kept = c.end_child.ensures.kept;
}
