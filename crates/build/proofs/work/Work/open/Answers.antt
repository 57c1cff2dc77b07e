use Rattle.std.proofs.Common.{◌≡◌, ◌+◌, length, sym, ap, ◌∙◌, subst, arith}
use Rattle.law.specs.Answers.{answering}
use Rattle.pool.specs.Meaning.{total}
use Rattle.rules.specs.Builds.{Build, at, begun_on, in_state}
use Rattle.rules.specs.Calls.{bit, noted}
use Rattle.rules.specs.Plans.{plan_of}
use Rattle.rules.specs.Settling.{settle}
use Rattle.rules.specs.declared.progress.Progress.{Progress}
use Rattle.rules.specs.declared.progress.State.TheVariants.{Running}
use Rattle.schedule.specs.Buffers.{Wrote}
use Rattle.schedule.specs.Records.{bytes}
use Rattle.schedule.specs.declared.record.Record.TheVariants.{Open}
use Rattle.tree.specs.Questions.{nodes_of}
use Rattle.build.specs.Hands.{Backed}
use Rattle.build.specs.Models.{model}
use Rattle.build.specs.Rooms.{room}
use Rattle.build.proofs.Fresh.{fresh_room, fresh_waits, open_accepts}
use Rattle.build.proofs.Handing.{in_hands_none}
use Rattle.build.proofs.Leading.{leads_then, leads_end, ran}
use Rattle.build.proofs.Steps.{begun_leads}
use Rattle.build.proofs.work.Work.open.Goals as goal

pub begin-requires : goal.begin-requires
begin-requires g c =
    let t = c.args.tree.now in
    let keep = c.args.keep in
    let e = c.renew.new.self in
    let fresh = c.renew.ensures.after in
    let long = open_accepts (plan_of (nodes_of t)) (total (g.P.Lender.ways.means c.args.pool.now).outs) (length c.args.buffer.now) c.in_ok-check_open.ensures in
    record {
      waits = ap (λ (d : Build). (at d 0).state) fresh.build ∙ ap (λ (x : Progress). x.state) (fresh_waits (plan_of (nodes_of t)) keep 0);
      few = omega (arith, c.total_in-tokens.ensures, (g.met.P.Lender.bounded c.args.pool.now).few);
      room = omega (arith, long, fresh.written, ap room fresh.build, fresh_room t keep);
    }

pub settle-requires : goal.settle-requires
settle-requires g c =
    let t = c.args.tree.now in
    let fresh = c.renew.ensures.after in
    let change = c.begin.ensures.after in
    let long = open_accepts (plan_of (nodes_of t)) (total (g.P.Lender.ways.means c.args.pool.now).outs) (length c.args.buffer.now) c.in_ok-check_open.ensures in
    let none = ap (λ (d : Build). d.tokens) change.build ∙ ap (λ (d : Build). d.tokens) fresh.build in
    record {
      backed = subst (Backed g.P.Lender.ways c.args.pool.now) (sym none) (λ k. omega (arith, in_hands_none k));
      room = omega (arith, change.spent, long, fresh.written, ap room fresh.build, fresh_room t c.args.keep, c.begin.auto.buffer);
    }

pub returns : goal.returns
returns g c =
    let w = g.P.Lender.ways in
    let t = plan_of (nodes_of c.args.tree.now) in
    let keep = c.args.keep in
    let tokens = total (w.means c.args.pool.now).ins in
    let fresh = c.renew.ensures.after in
    let change = c.begin.ensures.after in
    let kept = c.settle.ensures.kept in
    let old = c.args.buffer.now in
    let record_is : Open (c.total_in-tokens.result + 1) (bit c.renew.new.self.keep) (model c.renew.new.self).plan.nodes ≡ Open (tokens + 1) (bit keep) t.nodes =
    λ i. Open (c.total_in-tokens.ensures i + 1) (bit (fresh.build i).keep) (fresh.build i).plan.nodes in
    let build = change.build ∙ ap (λ d. in_state d 0 Running) fresh.build in
    let wrote = subst (λ n. Wrote old n (bytes (Open (tokens + 1) (bit keep) t.nodes)) c.begin.new.buffer c.begin.new.self.written) fresh.written
    (subst (λ r. Wrote old c.renew.new.self.written (bytes r) c.begin.new.buffer c.begin.new.self.written) record_is change.wrote) in
    let opens = begun_leads w (Open (tokens + 1) (bit keep) t.nodes) (in_state (begun_on t keep) 0 Running) _ build wrote in
    let ends = leads_end w (leads_then w (settle answering) opens) c.settle.ensures.after in
    record {
      after = (sym c.in_ok-check_open.ensures, ran w (λ r. settle answering (noted (Open (tokens + 1) (bit keep) t.nodes) r)) _ _ ends, c.count_running.ensures);
      unaltered = tt;
    }
