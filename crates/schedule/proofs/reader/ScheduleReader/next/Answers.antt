use Rattle.std.proofs.Common.{refl}
use Rattle.std.proofs.lemmas.Result.{err_from_is_err_and}
use Rattle.schedule.proofs.Bodies.{starts_with, found_end, found_none, Taken, taken, body_fits}
use Rattle.schedule.proofs.Divisions.{reading_on}
use Rattle.schedule.proofs.reader.ScheduleReader.next.Goals as goal

pub returns-in_default : goal.returns-in_default
returns-in_default c =
    let here = c.args.self.now in
    let none = found_end here.schedule.now here.place c.in_default.ensures.lookup.3 in
    record { result = none; after = refl; records = tt; law = reading_on here.schedule.now here.place _ none }

pub returns-in_err-length : goal.returns-in_err-length
returns-in_err-length c =
    let here = c.args.self.now in
    let p = err_from_is_err_and c.from_residual.result c.from_residual.ensures.1 in
    let starts = starts_with here.schedule.now here.place c.in-Some.field-0 c.in-Some.ensures.lookup in
    let none = found_none here.schedule.now here.place _ starts _ c.in_err-length.ensures.result in
    rw (p.1, p.2) (record { result = none; after = refl; records = tt; law = reading_on here.schedule.now here.place _ none })

pub view-record-requires : goal.view-record-requires
view-record-requires c =
    let here = c.args.self.now in
    let starts = starts_with here.schedule.now here.place c.in-Some.field-0 c.in-Some.ensures.lookup in
    body_fits here.schedule.now here.place _ starts _ c.in_ok-length.ensures.result

took : (c : goal.After-self-1) → Taken c.args.self.now.schedule.now c.args.self.now.place c.in-Some.field-0.now (starts_with c.args.self.now.schedule.now c.args.self.now.place c.in-Some.field-0 c.in-Some.ensures.lookup) c.in_ok-length.length c.view-record.result
took c = taken _ _ _ _ _ _ c.in_ok-length.ensures.result c.view-record.ensures.records c.view-record.ensures.result

pub returns-clause-result : goal.returns-clause-result
returns-clause-result c = (took c).here

pub returns-clause-records : goal.returns-clause-records
returns-clause-records c = (took c).part

pub returns-clause-law : goal.returns-clause-law
returns-clause-law c = (took c).law
