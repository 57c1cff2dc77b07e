use Rattle.std.proofs.Common.{take}
use Rattle.pipe.specs.Pipes.{AllIn}
use Rattle.pipe.proofs.state.Pipe.filled.Given as goal

abbrev pub invariant-loop-b : goal.invariant-loop-b
invariant-loop-b l = AllIn (take l.b-index l.tokens) l.pipe
