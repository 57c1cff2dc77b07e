use Rattle.std.proofs.Common.{refl}
use Rattle.first_line.specs.Cuts.{cut_at, all_show}
use Rattle.lines.specs.Words.{parts}
use Rattle.pool.specs.Meaning.{count}
use Rattle.script.specs.Reading.{read_parts}
use Rattle.std.specs.Fmt.{digits}
use Rattle.tree.specs.Nodes.{total}
use Rattle.rules.proofs.Agreeing.{pipes, semaphores}
use Rattle.rules.proofs.cases.worked_cases.Goals as goal

pub returns : goal.returns
unfolding cut_at all_show parts read_parts total digits count
returns c = record { law = refl; pipes = pipes; semaphores = semaphores }
