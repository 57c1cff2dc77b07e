-- With one buffer, what is written reads back as the records of all calls. Assumes nothing.
use Rattle.std.proofs.Common.{◌≡◌, ℕ, Bool, List, [], ◌++◌, reverse, take, Ok, Err, Result, sym, ap, ◌∙◌, append-nil}
use mathlib.Core.List.{reverse-append}
use Rattle.law.proofs.Following.{read_records, read_none}
use Rattle.law.specs.Answers.{answering, unasked}
use Rattle.law.specs.Calls.{Status, Request, run_of, Called, Opened}
use Rattle.law.specs.Counts.{records_of}
use Rattle.law.specs.Law.{ReadsBackFrom}
use Rattle.law.specs.Traces.{wrote_records, Moment, just_opened, after_call, Trace, InOneBuffer, at_open, by_call, by_load, by_obtain, by_release}
use Rattle.pool.specs.Meaning.{total}
use Rattle.pool.specs.Ways.{Ways}
use Rattle.rules.specs.Calls.{open_run}
use Rattle.rules.specs.Plans.{Plan}
use Rattle.rules.specs.declared.refusal.Refusal.{Refusal}
use Rattle.schedule.proofs.Buffers.{wrote_front}
use Rattle.schedule.proofs.Divisions.{division_encoded}
use Rattle.schedule.proofs.Encodings.{encoded_append}
use Rattle.schedule.specs.Reading.{division}
use Rattle.schedule.specs.Records.{encoded}

-- what is written is the bytes of all records
abbrev Written : {P : Type 0} → Moment P → List ℕ → Type 0
Written now buffer = take now.status.written buffer ≡ encoded (reverse (records_of now.calls))

module _ {P : Type 0} (w : Ways P) where
  written_call : (now : Moment P) (c : Request) (r : Result ℕ Refusal) (s : Status) (q : P) (old new : List ℕ) → Called w c now.status now.pool old r s q new → Written now old → Written (after_call now c r s q new) new
  written_call now c (Ok n) s q old new d h =
      let ran = d.1 in
      let rs = records_of now.calls in
      let run = run_of c (record { build = now.status.build; pool = unasked ran.answers; records = [] }) in
      let read = read_records old now.status.written run.records new s.written ran.wrote in
      wrote_front ran.wrote ∙ ap (λ l. l ++ encoded (reverse run.records)) h ∙ sym (encoded_append (reverse rs) (reverse run.records)) ∙ ap encoded (sym (reverse-append run.records rs)) ∙ ap (λ l. encoded (reverse (l ++ rs))) (sym read)
  written_call now c (Err e) s q old new d h =
      ap (λ x. take x.written new) d.1 ∙ ap (take now.status.written) d.3 ∙ h
      ∙ sym (ap (λ x. encoded (reverse (reverse (wrote_records now.status.written x.written new) ++ records_of now.calls))) d.1 ∙ ap (λ l. encoded (reverse (reverse l ++ records_of now.calls))) (read_none now.status.written new))

  written_on : {start : Moment P} (first : List ℕ) → Written start first → (now : Moment P) (t : Trace w start now) (buffer : List ℕ) → InOneBuffer first now t buffer → Written now buffer
  written_on first h now t buffer at_open = h
  written_on first h now t buffer (by_call before tr c r s q old new d one) = written_call before c r s q old new d (written_on first h before tr old one)
  written_on first h now t buffer (by_load before tr buf x r q d one) = written_on first h before tr buf one
  written_on first h now t buffer (by_obtain before tr buf g q d one) = written_on first h before tr buf one
  written_on first h now t buffer (by_release before tr buf front g back held r q d one) = written_on first h before tr buf one

  written_open : (t : Plan) (keep : Bool) (before after : Status) (p q : P) (old new : List ℕ) (n : ℕ) → Opened w t keep before p old (Ok n) after q new → Written (just_opened after q new) new
  written_open t keep before after p q old new n d =
      let ran = d.1 in
      let run = open_run answering t keep (total (w.means p).ins) (unasked ran.answers) in
      wrote_front ran.wrote ∙ ap (λ l. encoded (reverse l)) (sym (append-nil _ ∙ read_records old 0 run.records new after.written ran.wrote))

  pub reads_back : (t : Plan) (keep : Bool) (before after : Status) (p q : P) (old new : List ℕ) (n : ℕ) → Opened w t keep before p old (Ok n) after q new → ReadsBackFrom w after q new
  reads_back t keep before after p q old new n d now trace buffer one =
      ap (λ bs. division bs 0) (written_on new (written_open t keep before after p q old new n d) now trace buffer one) ∙ division_encoded (reverse (records_of now.calls)) 0
