use Rattle.std.proofs.Common.{◌≡◌, ◌+◌, ◌<◌, true, false, length, sym, ap, ◌∙◌, subst, arith}
use Rattle.build.proofs.Reaching.{reach_within}
use Rattle.build.proofs.RoundByRound.{Rounding, enough, rounding_one, rounding_on, rounding_all}
use Rattle.build.proofs.work.Work.round.Goals as goal
use Rattle.build.proofs.work.Work.round.Goals.{then-jobs-n, else-jobs-n}
use Rattle.build.specs.Models.{model, status}
use Rattle.build.specs.Turns.{runs_as_job}
use Rattle.law.proofs.Rounds.{job_free}
use Rattle.rules.specs.Plans.{needed}

pub step_on-requires-clause-free : goal.step_on-requires-clause-free
step_on-requires-clause-free g c =
    let s = c.loop-n.invariant in
    let n = c.loop-n.n in
    let outs = (g.P.Lender.ways.means c.loop-n.pool).outs in
    let first : runs_as_job (model c.args.self.now) n ≡ true = sym (c.jobs_now-jobs.ensures n false (omega arith)) ∙ c.if-jobs-n.true in
    let same = ap (λ t. t.nodes) s.plan in
    job_free (status c.loop-n.self) s.sound outs (length c.loop-n.buffer) n (omega (arith, c.requires.long, ap needed s.plan, c.loop-n.auto.buffer)) (enough (model c.loop-n.self) outs s.backed) (omega (arith, same)) (s.runs n (omega arith) first)

pub step_on-requires-clause-within : goal.step_on-requires-clause-within
step_on-requires-clause-within g c = omega (arith, reach_within c.loop-n.self c.loop-n.invariant.sound)

pub loop-n-preserved : goal.loop-n-preserved
loop-n-preserved g c =
    let w = g.P.Lender.ways in
    let e = c.args.self.now in
    let n = c.loop-n.n in
    let less : n < (model e).plan.nodes = omega arith in
    let told = c.jobs_now-jobs.ensures n false (omega arith) in
    elim c.if-jobs-n.branch [
      | then-jobs-n v ↦
          let next = rounding_one w c.loop-n.invariant less _ _ _ _ (sym told ∙ v.if-jobs-n.true) v.step_on.ensures.after v.step_on.ensures.kept.backed in
          subst (λ x. Rounding w e c.args.pool.now c.args.buffer.now (n + 1) x c.if-jobs-n.pool c.if-jobs-n.buffer) (sym v.self-is)
          (subst (λ x. Rounding w e c.args.pool.now c.args.buffer.now (n + 1) v.step_on.new.self x c.if-jobs-n.buffer) (sym v.pool-is)
          (subst (λ x. Rounding w e c.args.pool.now c.args.buffer.now (n + 1) v.step_on.new.self v.step_on.new.pool x) (sym v.buffer-is) next))
      | else-jobs-n v ↦
          let next = rounding_on w c.loop-n.invariant less (sym told ∙ v.if-jobs-n.false) in
          subst (λ x. Rounding w e c.args.pool.now c.args.buffer.now (n + 1) x c.if-jobs-n.pool c.if-jobs-n.buffer) (sym v.self-is)
          (subst (λ x. Rounding w e c.args.pool.now c.args.buffer.now (n + 1) c.loop-n.self x c.if-jobs-n.buffer) (sym v.pool-is)
          (subst (λ x. Rounding w e c.args.pool.now c.args.buffer.now (n + 1) c.loop-n.self c.loop-n.pool x) (sym v.buffer-is) next))
    ]

pub returns-clause-after : goal.returns-clause-after
returns-clause-after g c = rounding_all g.P.Lender.ways c.loop-n.invariant (omega arith)
