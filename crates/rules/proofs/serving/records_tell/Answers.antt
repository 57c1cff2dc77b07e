use Rattle.rules.proofs.Tales.{first_fault, tells_all, trees_ordered}
use Rattle.rules.proofs.serving.records_tell.Goals as goal

pub returns : goal.returns
returns g c = record { law = tells_all; faults = first_fault _; trees = trees_ordered }
