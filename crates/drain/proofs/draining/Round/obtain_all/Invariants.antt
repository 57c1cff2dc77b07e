use Rattle.std.proofs.Common.{◌≡◌, ◌+◌, vec_items, vec_len, vec_capacity}
use Rattle.pool.specs.Meaning.{total}
use Rattle.drain.proofs.Rounds.{Obtaining}
use Rattle.drain.proofs.draining.Round.obtain_all.Given as goal

abbrev pub invariant-loop-grant : goal.invariant-loop-grant
invariant-loop-grant g l =
    let w = g.P.Lender.ways in
    record {
      so_far : Obtaining w l.initial.pool (vec_items l.self.held) (vec_items l.self.events) l.pool;
      told : vec_len l.self.events ≡ vec_len l.self.held;
      wide : vec_capacity l.self.events ≡ vec_capacity l.initial.self.events;
      out : total (w.means l.pool).outs ≡ total (w.means l.initial.pool).outs + vec_len l.self.held;
    }

abbrev pub decreases-loop-grant : goal.decreases-loop-grant
decreases-loop-grant g l = (g.P.Lender.ways.means l.pool).ready
