use Rattle.std.proofs.Common.{◌≡◌, ◌+◌, ◌<◌, ◌≤◌, length, sym, ap, ◌∙◌, subst, arith}
use Rattle.rules.specs.Builds.{Build, unbegun, at, with_node}
use Rattle.rules.specs.Calls.{stepped}
use Rattle.std.proofs.lemmas.List.{get_or-set_same}
use Rattle.build.specs.Models.{model}
use Rattle.build.specs.Rooms.{room}
use Rattle.build.specs.Working.{stepped_build}
use Rattle.build.proofs.Altering.{after_step, read_at, leaves_same, step_state, noted_build}
use Rattle.build.proofs.Fitting.{fits, stepped_room}
use Rattle.build.proofs.work.Work.step_one.Goals as goal

pub note-requires : goal.note-requires
note-requires c =
    let b = model c.args.self.now in
    let n = c.args.n in
    let so = fits c.args.self.now in
    let job = c.requires.job in
    let less = c.requires.left in
    record { room = omega (arith, c.requires.room, stepped_room b n (omega (arith, so.whole, job.0)) c.requires.runs less) }

pub invariant_of-self : goal.invariant_of-self
invariant_of-self c =
    let e = c.args.self.now in
    let so = leaves_same e c.args.n c.index_mut.result.now c.accept.new.self c.requires.job.0 c.index_mut.ensures.value (ap (λ x. x.state) c.accept.ensures.after ∙ step_state c.index_mut.result.now _) in
    record { whole = e.whole; wide = e.wide; few = so.few; listed = so.listed; noted = so.noted }

pub returns : goal.returns
returns c =
    let e = c.args.self.now in
    let b = model e in
    let n = c.args.n in
    let so = fits c.args.self.now in
    let job = c.requires.job in
    let runs = c.requires.runs in
    let less = c.requires.left in
    let place : n < length b.nodes = omega (arith, so.whole, job.0) in
    let node = after_step _ (at b n) c.accept.new.self _ c.accept.ensures.after (read_at b n _ place c.index_mut.ensures.value) runs (omega (arith, c.steps_of-steps.ensures)) in
    let noted = c.note.ensures.after in
    let build : model c.note.new.self ≡ stepped_build n b = noted_build noted ∙ ap (with_node b n) node in
    let done : (at (stepped_build n b) n).done ≡ (at b n).done + 1 = ap (λ x. x.done) (get_or-set_same b.nodes n (stepped (at b n)) unbegun place) in
    record {
      after = record {
        build = build;
        wrote = noted.wrote;
        done = subst (λ (d : Build). (at d n).done ≤ d.plan.steps n) (sym build) (omega (arith, less));
        spent = omega (arith, noted.wrote.end, ap room build, stepped_room b n place runs less);
      };
    }
