-- A step of a job, and other records, as parts of a run. Assumes nothing.
use Rattle.std.proofs.Common.{◌≡◌, ℕ, eqb, List, [], ◌∷◌, sym, refl, ap, ◌∙◌, subst, append-nil}
use Rattle.law.specs.Answers.{Answers, answering}
use Rattle.pool.specs.Ways.{Ways}
use Rattle.rules.specs.Builds.{Build, at}
use Rattle.rules.specs.Calls.{noted, last_step}
use Rattle.rules.specs.Ending.{end_node}
use Rattle.rules.specs.Lists.{if_so}
use Rattle.rules.specs.Settling.{Run}
use Rattle.rules.specs.declared.progress.State.{State}
use Rattle.schedule.specs.Buffers.{Wrote}
use Rattle.schedule.specs.Records.{bytes}
use Rattle.schedule.specs.declared.record.Record.{Record}
use Rattle.schedule.specs.declared.record.Record.TheVariants.{Step}
use Rattle.std.proofs.lemmas.Bool.{eq-eqb, ne_eqb}
use Rattle.build.specs.Changes.{Noted, here}
use Rattle.build.specs.Leads.{on, Leads}
use Rattle.build.specs.Working.{worked, stepped_build}
use Rattle.build.specs.declared.work.Work.{Work}
use Rattle.build.proofs.Altering.{noted_build}
use Rattle.build.proofs.Leading.{leads_as}
use Rattle.build.proofs.Settles.{point}

-- a record, and no more
pub noted_leads : {P : Type 0} (w : Ways P) {e e' : Work} {p : P} {old new : List ℕ} (x : Record) → Noted e old x e' new → Leads w (noted x) (λ r. r) (here e p old) (here e' p new)
noted_leads w {e} {e'} {p} {old} {new} x n = record {
  answers = [];
  asked = [];
  records = x ∷ [];
  runs = λ coming ops rs. ap (λ d. on d coming ops (x ∷ rs)) (sym (noted_build n));
  pool = refl;
  wrote = subst (λ l. Wrote old e.written l new e'.written) (sym (append-nil (bytes x))) n.wrote;
}

-- a record in front of a build
pub begun_leads : {P : Type 0} (w : Ways P) (x : Record) (b b' : Build) {p : P} {old new : List ℕ} {from to : ℕ} → b' ≡ b → Wrote old from (bytes x) new to → Leads w (noted x) (λ r. r) (point b from p old) (point b' to p new)
begun_leads w x b b' {p} {old} {new} {from} {to} is wrote = record {
  answers = [];
  asked = [];
  records = x ∷ [];
  runs = λ coming ops rs. ap (λ d. on d coming ops (x ∷ rs)) (sym is);
  pool = refl;
  wrote = subst (λ l. Wrote old from l new to) (sym (append-nil (bytes x))) wrote;
}

-- what a step of job n leaves to do
abbrev after_step : ℕ → Run Answers → Run Answers
after_step n r = if_so (eqb (at r.build n).done (r.build.plan.steps n)) (λ _. end_node answering (last_step (r.build.plan.kind n)) n r) (λ _. r)

module _ {P : Type 0} (w : Ways P) (n : ℕ) (b b' : Build) {p : P} {old new : List ℕ} {from to : ℕ} (is : b' ≡ stepped_build n b) (wrote : Wrote old from (bytes (Step n)) new to) where
  begun : Leads w (worked answering n) (after_step n) (point b from p old) (point b' to p new)
  begun = record {
    answers = [];
    asked = [];
    records = Step n ∷ [];
    runs = λ coming ops rs. ap (λ d. after_step n (on d coming ops (Step n ∷ rs))) (sym is);
    pool = refl;
    wrote = wrote;
  }

  -- it was not the last
  pub step_leads : ((at b' n).done ≡ b'.plan.steps n → ⊥) → Leads w (worked answering n) (λ r. r) (point b from p old) (point b' to p new)
  step_leads more =
      leads_as w (worked answering n) (λ r. r) (λ c o rs. refl)
      (λ c o rs. let r = on b' c o rs in ap (λ t. if_so t (λ _. end_node answering (last_step (b'.plan.kind n)) n r) (λ _. r)) (ne_eqb (at b' n).done (b'.plan.steps n) more)) begun

  -- it was the last
  pub last_leads : (at b' n).done ≡ b'.plan.steps n → (s : State) → s ≡ last_step (b'.plan.kind n) → Leads w (worked answering n) (end_node answering s n) (point b from p old) (point b' to p new)
  last_leads last s how =
      leads_as w (worked answering n) (end_node answering s n) (λ c o rs. refl)
      (λ c o rs.
      let r = on b' c o rs in
      ap (λ t. if_so t (λ _. end_node answering (last_step (b'.plan.kind n)) n r) (λ _. r)) (eq-eqb (at b' n).done (b'.plan.steps n) last)
      ∙ ap (λ k. end_node answering k n r) (sym how)) begun
