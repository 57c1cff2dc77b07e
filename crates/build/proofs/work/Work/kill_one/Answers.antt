use Rattle.std.proofs.Common.{◌≡◌, refl, ap, ◌∙◌, arith}
use Rattle.law.specs.Answers.{answering}
use Rattle.rules.specs.Builds.{Build}
use Rattle.rules.specs.Ending.{end_node}
use Rattle.rules.specs.declared.progress.State.TheVariants.{Failed}
use Rattle.schedule.specs.declared.cause.Cause.TheVariants as causes
use Rattle.schedule.specs.declared.record.Record.TheVariants.{Kill}
use Rattle.build.specs.Models.{model}
use Rattle.build.specs.Rooms.{room}
use Rattle.build.proofs.Altering.{noted_build}
use Rattle.build.proofs.Fitting.{ended_room, fits}
use Rattle.build.proofs.Leading.{leads_then, leads_both}
use Rattle.build.proofs.Steps.{noted_leads}
use Rattle.build.proofs.work.Work.kill_one.Goals as goal

pub note-requires : goal.note-requires
note-requires g c =
    let b = model c.args.self.now in
    let enough = ended_room b c.args.n (omega (arith, (fits c.args.self.now).whole, c.requires.node)) (Failed causes.Kill) refl refl c.requires.runs in
    record { room = omega (arith, c.requires.room) }

pub returns : goal.returns
returns g c =
    let w = g.P.Lender.ways in
    let n = c.args.n in
    let noted = c.note.ensures.after in
    let is : model c.note.new.self ≡ model c.args.self.now = noted_build noted in
    let kept = c.end.ensures.kept in
    record {
      after = leads_both w (leads_then w (end_node answering (Failed causes.Kill) n) (noted_leads w (Kill n) noted)) c.end.ensures.after;
      kept = record {
        backed = kept.backed;
        plan = kept.plan ∙ ap (λ (d : Build). d.plan) is;
        keep = kept.keep ∙ ap (λ (d : Build). d.keep) is;
        spent = omega (arith, kept.spent, noted.wrote.end, ap room is);
      };
    }
