use Rattle.std.proofs.Common.{take}
use Rattle.schedule.specs.Buffers.{Wrote}
use Rattle.schedule.specs.Records.{encoded}
use Rattle.schedule.proofs.write.put_records.Given as goal

abbrev pub invariant-loop-record : goal.invariant-loop-record
invariant-loop-record l = Wrote l.initial.buffer l.place (encoded (take l.record-index l.records)) l.buffer l.at
