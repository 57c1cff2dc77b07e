use Rattle.std.proofs.Common.{◌+◌, ◌++◌, ap, ◌∙◌, arith}
use Rattle.schedule.specs.Records.{bytes}
use Rattle.schedule.proofs.Buffers.{wrote_part, wrote_front}
use Rattle.schedule.proofs.RoundTrip.{division_behind}
use Rattle.schedule.proofs.record.Record.put.Goals as goal

pub returns : goal.returns
returns c =
    let wrote = wrote_part c.args.buffer.now c.args.place _ (bytes c.args.self) _ c.encode.ensures (ap (λ n. c.args.place + n) c.size.ensures.result) (omega arith) in
    record { after = wrote; law = λ rs e. division_behind rs c.args.self _ (wrote_front wrote ∙ ap (λ l. l ++ bytes c.args.self) e) }
