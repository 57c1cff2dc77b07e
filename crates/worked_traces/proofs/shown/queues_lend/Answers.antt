use Rattle.worked_traces.proofs.Queues.{queues_lend}
use Rattle.worked_traces.proofs.shown.queues_lend.Goals as goal

pub returns : goal.returns
returns c = record { law = queues_lend }
