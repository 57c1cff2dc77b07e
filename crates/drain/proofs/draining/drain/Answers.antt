use Rattle.std.proofs.Common.{vec_items, sym, ap, subst}
use Rattle.drain.specs.Draining.{Drained}
use Rattle.drain.proofs.Rounds.{round}
use Rattle.drain.proofs.draining.drain.Goals as goal

pub returns : goal.returns
returns g c =
    let same = ap vec_items c.into_events.ensures in
    record {
      after = subst (λ es. Drained g.P.Lender.ways c.args.pool.now es c.release_all.new.pool) (sym same) (round _ _ _ _ _ _ _ c.obtain_all.ensures.after c.release_all.ensures.after);
    }
