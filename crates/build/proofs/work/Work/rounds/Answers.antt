use Rattle.std.proofs.Common.{◌+◌, length, sym, subst, arith}
use Rattle.build.proofs.Accepting.{call_accepts}
use Rattle.build.proofs.RoundByRound.{SoFar, begun, round_more, rounds_over}
use Rattle.build.proofs.work.Work.rounds.Goals as goal
use Rattle.build.specs.Models.{model, status}
use Rattle.law.proofs.Rounds.{all_steps, few_left, some_job}

pub loop-self-init : goal.loop-self-init
loop-self-init g c =
    let accepts = call_accepts (model c.args.self.now) (g.P.Lender.ways.means c.args.pool.now).outs (length c.args.buffer.now) c.in_ok-check_call.ensures in
    begun g.P.Lender.ways c.args.self.now c.args.pool.now c.args.buffer.now c.requires.sound accepts.backed

pub overflow_add-steps : goal.overflow_add-steps
overflow_add-steps g c =
    let s = c.loop-self.invariant in
    let one = all_steps g.P.Lender.ways s.walked.sound c.round-steps.ensures.after in
    let all = few_left (status c.args.self.now) c.requires.sound in
    omega (arith, one.fewer, s.walked.fewer, all, c.args.self.now.tree.counted.2, c.round-steps.ensures.result)

pub loop-self-smaller : goal.loop-self-smaller
loop-self-smaller g c =
    let s = c.loop-self.invariant in
    let one = all_steps g.P.Lender.ways s.walked.sound c.round-steps.ensures.after in
    let some = some_job (status c.loop-self.self) s.walked.sound (sym c.loop-self-test.ensures.result) in
    omega (arith, one.fewer, some)

pub loop-self-preserved : goal.loop-self-preserved
loop-self-preserved g c =
    let next = round_more g.P.Lender.ways c.loop-self.invariant c.round-steps.new.self c.round-steps.new.pool c.round-steps.new.buffer (sym c.loop-self-test.ensures.result) c.round-steps.ensures.after c.round-steps.ensures.backed in
    subst (λ n. SoFar g.P.Lender.ways c.args.self.now c.args.pool.now c.args.buffer.now (c.loop-self.steps + n) c.round-steps.new.self c.round-steps.new.pool c.round-steps.new.buffer) (sym c.round-steps.ensures.result) next

pub returns-clause-after : goal.returns-clause-after
returns-clause-after g c = (sym c.in_ok-check_call.ensures, rounds_over g.P.Lender.ways c.loop-self.invariant (sym c.loop-self-test.ensures.result))
