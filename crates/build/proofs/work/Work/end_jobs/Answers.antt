use Rattle.std.proofs.Common.{◌+◌, ◌<◌, not, sym, ap, subst, arith}
use Rattle.build.proofs.Halts.{EndingJobs, ending_none, ending_one, ending_on, ending_all}
use Rattle.build.proofs.Upwards.{running_state}
use Rattle.build.specs.Models.{model}
use Rattle.build.proofs.work.Work.end_jobs.Goals as goal
use Rattle.build.proofs.work.Work.end_jobs.Goals.{then-runs_as_job, else-runs_as_job}
use Rattle.rules.specs.Builds.{at, running}
use Rattle.rules.specs.Plans.{is_make}
use Rattle.std.proofs.lemmas.Bool.{and_parts}

pub loop-n-init : goal.loop-n-init
loop-n-init g c = ending_none g.P.Lender.ways c.args.self.now c.args.pool.now c.args.buffer.now c.requires.backed (omega (arith, c.requires.room))

pub end-requires : goal.end-requires
end-requires g c =
    let s = c.loop-n.invariant in
    let same = ap (λ t. t.nodes) s.kept.plan in
    let b = model c.loop-n.self in
    let n = c.loop-n.n in
    let parts = and_parts (running b n) (not (is_make b.plan n)) (sym c.if-runs_as_job.ensures) in
    record {
      backed = s.kept.backed;
      node = omega (arith, same);
      runs = running_state (at b n).state parts.0;
      room = omega (arith, s.kept.spent, c.requires.room, c.loop-n.auto.buffer);
    }

pub loop-n-preserved : goal.loop-n-preserved
loop-n-preserved g c =
    let w = g.P.Lender.ways in
    let e = c.args.self.now in
    let less : c.loop-n.n < (model e).plan.nodes = omega arith in
    elim c.if-runs_as_job.branch [
      | then-runs_as_job v ↦
          let next = ending_one w c.loop-n.invariant less _ _ _ v.if-runs_as_job.ensures v.end.ensures.after v.end.ensures.kept in
          subst (λ x. EndingJobs w e c.args.pool.now c.args.buffer.now (c.loop-n.n + 1) x c.if-runs_as_job.pool c.if-runs_as_job.buffer) (sym v.self-is)
          (subst (λ x. EndingJobs w e c.args.pool.now c.args.buffer.now (c.loop-n.n + 1) v.end.new.self x c.if-runs_as_job.buffer) (sym v.pool-is)
          (subst (λ x. EndingJobs w e c.args.pool.now c.args.buffer.now (c.loop-n.n + 1) v.end.new.self v.end.new.pool x) (sym v.buffer-is) next))
      | else-runs_as_job v ↦
          let next = ending_on w c.loop-n.invariant less v.if-runs_as_job.ensures in
          subst (λ x. EndingJobs w e c.args.pool.now c.args.buffer.now (c.loop-n.n + 1) x c.if-runs_as_job.pool c.if-runs_as_job.buffer) (sym v.self-is)
          (subst (λ x. EndingJobs w e c.args.pool.now c.args.buffer.now (c.loop-n.n + 1) c.loop-n.self x c.if-runs_as_job.buffer) (sym v.pool-is)
          (subst (λ x. EndingJobs w e c.args.pool.now c.args.buffer.now (c.loop-n.n + 1) c.loop-n.self c.loop-n.pool x) (sym v.buffer-is) next))
    ]

pub returns : goal.returns
returns g c = record { after = ending_all g.P.Lender.ways c.loop-n.invariant (omega arith); kept = c.loop-n.invariant.kept }
