use Rattle.std.proofs.Common.{length, arith}
use Rattle.law.specs.Answers.{answering}
use Rattle.law.specs.Calls.{kill}
use Rattle.rules.specs.Settling.{settle}
use Rattle.build.specs.Models.{model}
use Rattle.build.proofs.Accepting.{job_accepts, runs_inside, called}
use Rattle.build.proofs.Leading.{leads_then, leads_end}
use Rattle.build.proofs.Fitting.{fits}
use Rattle.build.proofs.work.Work.kill.Goals as goal

pub kill_one-requires : goal.kill_one-requires
kill_one-requires g c =
    let accepts = job_accepts (model c.args.self.now) (g.P.Lender.ways.means c.args.pool.now).outs (length c.args.buffer.now) c.args.n c.in_ok-check_job.ensures in
    let inside = runs_inside (model c.args.self.now) c.args.n accepts.runs in
    record {
      backed = accepts.call.backed;
      node = omega (arith, (fits c.args.self.now).whole);
      runs = accepts.runs;
      room = omega (arith, c.requires.within, accepts.call.long);
    }

pub settle-requires : goal.settle-requires
settle-requires g c =
    let accepts = job_accepts (model c.args.self.now) (g.P.Lender.ways.means c.args.pool.now).outs (length c.args.buffer.now) c.args.n c.in_ok-check_job.ensures in
    let kept = c.kill_one.ensures.kept in
    record { backed = kept.backed; room = omega (arith, kept.spent, c.requires.within, accepts.call.long, c.kill_one.auto.buffer) }

pub returns : goal.returns
returns g c =
    let w = g.P.Lender.ways in
    record {
      after = called w (kill c.args.n) _ _ _ c.in_ok-check_job.ensures (leads_end w (leads_then w (settle answering) c.kill_one.ensures.after) c.settle.ensures.after) c.count_running.ensures;
      unaltered = tt;
    }
