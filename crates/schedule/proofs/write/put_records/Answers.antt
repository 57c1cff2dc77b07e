use Rattle.std.proofs.Common.{ap, ◌∙◌, arith}
use Rattle.std.proofs.lemmas.List.{take_all}
use Rattle.std.proofs.lemmas.List.Folds.{length-flat_map-take}
use Rattle.schedule.specs.Records.{bytes}
use Rattle.schedule.specs.Reading.{division}
use Rattle.schedule.specs.declared.record.Record.TheVariants.{Open}
use Rattle.schedule.proofs.Buffers.{wrote_both, wrote_between}
use Rattle.schedule.proofs.Divisions.{division_encoded}
use Rattle.schedule.proofs.Encodings.{encoded_more}
use Rattle.schedule.proofs.write.put_records.Goals as goal

pub put-at-requires : goal.put-at-requires
put-at-requires c =
    let fits = length-flat_map-take bytes c.args.records.now c.loop-record.record-index (Open 0 0 0) c.loop-record-test.true in
    omega (arith, fits, c.loop-record.invariant.end)

pub loop-record-preserved : goal.loop-record-preserved
loop-record-preserved c =
    rw (encoded_more c.args.records.now c.loop-record.record-index (Open 0 0 0) c.loop-record-test.true) (wrote_both c.loop-record.invariant c.put-at.ensures.after)

pub returns : goal.returns
returns c =
    let rs = c.args.records.now in
    let wrote = rw (take_all c.loop-record.record-index rs c.loop-record-test.false) at c.loop-record.invariant in
    record { after = wrote; law = ap (λ bs. division bs 0) (wrote_between wrote) ∙ division_encoded rs 0 }
