use Rattle.std.proofs.Common.{arith}
use Rattle.std.proofs.lemmas.List.{take_all}
use Rattle.schedule.proofs.Buffers.{wrote_both}
use Rattle.schedule.proofs.Fields.{spaced_more}
use Rattle.schedule.proofs.line.put_line.Goals as goal

pub loop-field-preserved : goal.loop-field-preserved
loop-field-preserved c =
    let more = spaced_more c.args.fields.now c.loop-field.field-index c.loop-field-test.true in
    (rw more (wrote_both c.loop-field.invariant.0 c.put_field-at.ensures.after), omega (arith, c.loop-field.invariant.1, c.put_field-at.ensures.result))

pub returns : goal.returns
returns c =
    let fields = rw (take_all c.loop-field.field-index c.args.fields.now c.loop-field-test.false) at c.loop-field.invariant.0 in
    wrote_both (wrote_both c.put_letter-at.ensures fields) c.put.ensures
