use Rattle.std.proofs.Common.{vec_items}
use Rattle.build.specs.Changes.{here, reach}
use Rattle.build.specs.Rooms.{to_start}
use Rattle.build.specs.Turning.{Kept}
use Rattle.build.proofs.Settles.{Settling}
use Rattle.build.proofs.work.Work.settle.Given as goal

abbrev pub invariant-loop : goal.invariant-loop
invariant-loop g l =
    let w = g.P.Lender.ways in
    Settling w (here l.initial.self l.initial.pool l.initial.buffer) (here l.self l.pool l.buffer)
    × Kept w l.initial.self (reach l.initial.self) l.self l.pool

abbrev pub decreases-loop : goal.decreases-loop
decreases-loop g l = to_start (vec_items l.self.nodes)
