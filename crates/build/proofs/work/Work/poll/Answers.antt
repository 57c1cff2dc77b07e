use Rattle.std.proofs.Common.{length, arith}
use Rattle.law.specs.Calls.{poll}
use Rattle.build.specs.Models.{model}
use Rattle.build.proofs.Accepting.{call_accepts, called}
use Rattle.build.proofs.work.Work.poll.Goals as goal

pub settle-requires : goal.settle-requires
settle-requires g c =
    let accepts = call_accepts (model c.args.self.now) (g.P.Lender.ways.means c.args.pool.now).outs (length c.args.buffer.now) c.in_ok-check_call.ensures in
    record { backed = accepts.backed; room = omega (arith, c.requires.within, accepts.long) }

pub returns : goal.returns
returns g c = record {
  after = called g.P.Lender.ways poll _ _ _ c.in_ok-check_call.ensures c.settle.ensures.after c.count_running.ensures;
  unaltered = tt;
}
