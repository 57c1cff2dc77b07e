use Rattle.std.proofs.Common.{◌+◌, ◌*◌, ◌≤◌, take}
use Rattle.schedule.specs.Buffers.{Wrote}
use Rattle.schedule.specs.Lines.{spaced}
use Rattle.schedule.proofs.line.put_line.Given as goal

abbrev pub invariant-loop-field : goal.invariant-loop-field
invariant-loop-field l = Wrote l.initial.buffer l.initial.at (spaced (take l.field-index l.fields)) l.buffer l.at × (l.at ≤ l.initial.at + 4 * l.field-index)
