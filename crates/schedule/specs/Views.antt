-- What the reader hands out, as values. Assumes nothing.
use Rattle.std.specs.Prelude.{ℕ, List, ◌∷◌, drop, Some, None, Ok, Err, Option, Result, slice_index}
use Rattle.schedule.specs.declared.reader.ScheduleReader.{ScheduleReader}
use Rattle.schedule.specs.declared.record.Record.{Record}
use Rattle.schedule.specs.declared.record.Record.TheVariants as by_value
use Rattle.schedule.specs.declared.refusal.ReadRefusal.{ReadRefusal}
use Rattle.schedule.specs.declared.view.Placed.{Placed}
use Rattle.schedule.specs.declared.view.RecordView.{RecordView}
use Rattle.schedule.specs.declared.view.RecordView.TheVariants.{Open, StartInSlot, StartWithToken, Step, Kill, Halt, EndedWell, EndedFailed, PutBack, Finished}
use Rattle.schedule.specs.Reading.{Found, Division, division}

-- the bytes of the schedule that a view stands for: the kind byte and the body
abbrev pub span : RecordView → List ℕ
span (Open body) = 79 ∷ body.now
span (StartInSlot body) = 65 ∷ body.now
span (StartWithToken body) = 84 ∷ body.now
span (Step body) = 83 ∷ body.now
span (Kill body) = 75 ∷ body.now
span (Halt body) = 72 ∷ body.now
span (EndedWell body) = 69 ∷ body.now
span (EndedFailed body) = 70 ∷ body.now
span (PutBack body) = 82 ∷ body.now
span (Finished body) = 68 ∷ body.now

-- the record that a view shows
abbrev pub viewed : RecordView → Record
viewed (Open body) = by_value.Open (slice_index body.now 0) (slice_index body.now 1) (slice_index body.now 2)
viewed (StartInSlot body) = by_value.StartInSlot (slice_index body.now 0) (slice_index body.now 1)
viewed (StartWithToken body) = by_value.StartWithToken (slice_index body.now 0) (slice_index body.now 1) (slice_index body.now 2)
viewed (Step body) = by_value.Step (slice_index body.now 0)
viewed (Kill body) = by_value.Kill (slice_index body.now 0)
viewed (Halt body) = by_value.Halt
viewed (EndedWell body) = by_value.EndedWell (slice_index body.now 0)
viewed (EndedFailed body) = by_value.EndedFailed (slice_index body.now 0) (slice_index body.now 1)
viewed (PutBack body) = by_value.PutBack (slice_index body.now 0) (slice_index body.now 1)
viewed (Finished body) = by_value.Finished (slice_index body.now 0)

-- what a call of `next` answered, with each view as the record that it shows
abbrev pub shown : Result (Option Placed) ReadRefusal → Found
shown (Ok None) = Ok None
shown (Ok (Some p)) = Ok (Some (p.place, viewed p.record))
shown (Err refusal) = Err refusal

-- the bytes that a reader has yet to read
abbrev pub ahead : ScheduleReader → List ℕ
ahead reader = drop reader.place reader.schedule.now

-- the reading that a reader has yet to do
abbrev pub left_of : ScheduleReader → Division
left_of reader = division (ahead reader) reader.place

-- what holds of the record that a call of `next` handed out, if it did
abbrev pub handed : Result (Option Placed) ReadRefusal → (RecordView → Type 0) → Type 0
handed (Ok None) P = Unit {0}
handed (Ok (Some p)) P = P p.record
handed (Err refusal) P = Unit {0}
