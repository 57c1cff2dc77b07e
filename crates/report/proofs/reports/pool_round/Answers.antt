use Rattle.std.proofs.lemmas.Result.{IfOk-weaker}
use Rattle.report.proofs.Rounds.{round_from}
use Rattle.report.proofs.reports.pool_round.Goals as goal

pub returns-in-Pipe : goal.returns-in-Pipe
returns-in-Pipe c =
    let filled = rw c.unwrap.ensures at c.fill.ensures.after in
    rw c.in-Pipe.is (record { result = IfOk-weaker c.round.result _ _ (λ s told. round_from told filled.1) c.round.ensures.result })

pub returns-in-Semaphore : goal.returns-in-Semaphore
returns-in-Semaphore c =
    let filled = rw c.unwrap-in-Semaphore.ensures at c.fill-in-Semaphore.ensures.after in
    rw c.in-Semaphore.is (record { result = IfOk-weaker c.round-in-Semaphore.result _ _ (λ s told. round_from told filled.1) c.round-in-Semaphore.ensures.result })
