use Rattle.std.proofs.Common.{◌+◌, ◌≤◌, vec_items, vec_len, vec_capacity}
use Rattle.drain.proofs.Rounds.{Releasing}
use Rattle.drain.proofs.draining.Round.release_all.Given as goal

abbrev pub invariant-loop-grant : goal.invariant-loop-grant
invariant-loop-grant g l =
    Releasing g.P.Lender.ways l.initial.pool (vec_items l.initial.self.held) (vec_items l.self.held) (vec_items l.initial.self.events) (vec_items l.self.events) l.pool
    × (vec_len l.self.events + vec_len l.self.held ≤ vec_capacity l.self.events)

abbrev pub decreases-loop-grant : goal.decreases-loop-grant
decreases-loop-grant g l = vec_len l.self.held
