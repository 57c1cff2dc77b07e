use Rattle.std.proofs.Common.{◌≡◌}
use Rattle.pool.specs.Meaning.{sum_below}
use Rattle.build.proofs.opening.total_in.Given as goal

abbrev pub invariant-loop-byte : goal.invariant-loop-byte
invariant-loop-byte g l = l.tokens ≡ sum_below (g.P.Lender.ways.means l.pool).ins l.byte
