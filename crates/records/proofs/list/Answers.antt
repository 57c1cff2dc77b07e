use Rattle.std.proofs.Common.{ap, append_assoc}
use Rattle.schedule.proofs.Spans.{ahead_falls}
use Rattle.records.specs.Listing.{listed}
use Rattle.records.proofs.list.Goals as goal

pub loop-placed-smaller : goal.loop-placed-smaller
loop-placed-smaller c = ahead_falls _ _ _ (rw c.in-Ok-Some.field-0-is at c.in-Ok-Some.ensures.records)

pub loop-placed-preserved : goal.loop-placed-preserved
loop-placed-preserved c =
    let left = ap listed (rw c.in-Ok-Some.field-0-is at c.in-Ok-Some.ensures.law) in
    rw (c.in_ok-list_record-in-Ok-Some.ensures, append_assoc, ← left) c.loop-placed.invariant
