use Rattle.std.proofs.Common.{◌≡◌, length, sym, ap, ◌∙◌, subst, arith}
use Rattle.build.proofs.Altering.{noted_build}
use Rattle.build.proofs.Accepting.{call_accepts, called}
use Rattle.build.proofs.Halts.{halt_leads, stop_tokens}
use Rattle.build.proofs.Leading.{ends_here}
use Rattle.build.specs.Hands.{Backed}
use Rattle.build.specs.Models.{model}
use Rattle.build.specs.Rooms.{room, unended}
use Rattle.build.proofs.work.Work.halt.Goals as goal
use Rattle.law.specs.Calls.{halt}
use Rattle.rules.specs.Builds.{Build}
use Rattle.rules.specs.Plans.{all_makes}

pub note-requires : goal.note-requires
note-requires g c =
    let b = model c.args.self.now in
    let accepts = call_accepts b (g.P.Lender.ways.means c.args.pool.now).outs (length c.args.buffer.now) c.in_ok-check_call.ensures in
    record { room = omega (arith, c.requires.within, accepts.long, ap unended accepts.live) }

pub end_jobs-requires : goal.end_jobs-requires
end_jobs-requires g c =
    let w = g.P.Lender.ways in
    let b = model c.args.self.now in
    let accepts = call_accepts b (w.means c.args.pool.now).outs (length c.args.buffer.now) c.in_ok-check_call.ensures in
    let noted = c.note.ensures.after in
    let stopped = c.stop_makes.ensures.after in
    let same : model c.note.new.self ≡ b = noted_build noted in
    let tokens = ap (λ (d : Build). d.tokens) stopped.build ∙ stop_tokens (all_makes (model c.note.new.self).plan) (model c.note.new.self) ∙ ap (λ (d : Build). d.tokens) same in
    record {
      backed = subst (Backed w c.args.pool.now) (sym tokens) accepts.backed;
      room = omega (arith, stopped.spent, c.requires.within, accepts.long, ap unended accepts.live, noted.wrote.end, ap room same, c.note.auto.buffer);
    }

pub returns : goal.returns
returns g c =
    let w = g.P.Lender.ways in
    let b = model c.args.self.now in
    let accepts = call_accepts b (w.means c.args.pool.now).outs (length c.args.buffer.now) c.in_ok-check_call.ensures in
    let noted = c.note.ensures.after in
    let stopped = c.stop_makes.ensures.after in
    record {
      after = called w halt _ _ _ c.in_ok-check_call.ensures (ends_here w (halt_leads w c.args.self.now c.note.new.self c.stop_makes.new.self c.end_jobs.new.self noted stopped.build stopped.written (omega (arith, noted.wrote.room, c.note.auto.buffer)) c.end_jobs.ensures.after)) c.count_running.ensures;
      unaltered = tt;
    }
