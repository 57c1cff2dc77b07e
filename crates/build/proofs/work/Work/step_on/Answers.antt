use Rattle.std.proofs.Common.{length, sym, refl, ap, arith}
use Rattle.law.specs.Answers.{answering}
use Rattle.law.specs.Calls.{step}
use Rattle.rules.specs.Settling.{settle}
use Rattle.build.specs.Changes.{reach}
use Rattle.build.specs.Models.{model}
use Rattle.build.proofs.Accepting.{job_accepts, runs_inside, called}
use Rattle.build.proofs.Altering.{kept_both}
use Rattle.build.proofs.Leading.{leads_then, leads_end}
use Rattle.build.proofs.Fitting.{fits}
use Rattle.rules.specs.Builds.{is_running}
use Rattle.build.proofs.work.Work.step_on.Goals as goal

pub work_on-requires : goal.work_on-requires
work_on-requires g c =
    let accepts = job_accepts (model c.args.self.now) (g.P.Lender.ways.means c.args.pool.now).outs (length c.args.buffer.now) c.args.n (sym c.requires.free) in
    let inside = runs_inside (model c.args.self.now) c.args.n accepts.runs in
    record {
      backed = accepts.call.backed;
      job = (omega (arith, (fits c.args.self.now).whole), accepts.job);
      runs = accepts.runs;
      left = c.requires.going c.args.n (omega (arith, (fits c.args.self.now).whole)) accepts.job (ap is_running accepts.runs);
      room = omega (arith, c.requires.within, accepts.call.long);
    }

pub settle-requires : goal.settle-requires
settle-requires g c =
    let accepts = job_accepts (model c.args.self.now) (g.P.Lender.ways.means c.args.pool.now).outs (length c.args.buffer.now) c.args.n (sym c.requires.free) in
    let kept = c.work_on.ensures.kept in
    record { backed = kept.backed; room = omega (arith, kept.spent, c.requires.within, accepts.call.long, c.work_on.auto.buffer) }

pub returns : goal.returns
returns g c =
    let w = g.P.Lender.ways in
    record {
      after = called w (step c.args.n) _ _ _ (sym c.requires.free) (leads_end w (leads_then w (settle answering) c.work_on.ensures.after) c.settle.ensures.after) refl;
      kept = kept_both (reach c.args.self.now) (λ h. omega (arith, h)) c.work_on.ensures.kept c.settle.ensures.kept;
    }
