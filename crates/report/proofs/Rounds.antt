-- A round on a pool of which more is known. Assumes nothing.
use Rattle.std.proofs.Common.{◌≡◌, ℕ, List, sym, subst}
use Rattle.pool.specs.Ways.{Ways}
use Rattle.report.specs.Report.{Round}

-- the round began at p, and p was made so
pub round_from : {P : Type 0} {w : Ways P} {made : P → Type 0} {p : P} {text : List ℕ} → Round w (λ q. q ≡ p) text → made p → Round w made text
round_from {made} told fresh = record {
  pool = told.pool;
  fresh = subst made (sym told.fresh) fresh;
  events = told.events;
  end = told.end;
  drained = told.drained;
  lines = told.lines;
}
