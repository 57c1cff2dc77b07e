use Rattle.std.proofs.Common.{◌<◌, length, refl, ap, arith}
use Rattle.rules.specs.Builds.{at, in_state, with_node}
use Rattle.rules.specs.declared.progress.State.TheVariants.{Running}
use Rattle.build.specs.Models.{model}
use Rattle.build.proofs.Altering.{after_start, read_at, changed_by, leaves_started}
use Rattle.build.proofs.Fitting.{started_room, fits}
use Rattle.build.proofs.work.Work.start_in_slot.Goals as goal

pub note-requires : goal.note-requires
note-requires c =
    let b = model c.args.self.now in
    let so = fits c.args.self.now in
    let may = c.requires.start in
    record { room = omega (arith, c.requires.room, started_room b c.args.start.child (omega (arith, so.whole, may.child)) may.unbegun) }

pub invariant_of-self : goal.invariant_of-self
invariant_of-self c =
    let e = c.args.self.now in
    let so = leaves_started e c.args.start.child c.index_mut.result.now c.accept.new.self c.requires.start.child c.index_mut.ensures.value c.accept.ensures.after c.requires.start.unbegun in
    record { whole = e.whole; wide = e.wide; few = omega (arith, so.few); listed = so.listed; noted = so.noted }

pub returns : goal.returns
returns c =
    let e = c.args.self.now in
    let b = model e in
    let n = c.args.start.child in
    let so = fits c.args.self.now in
    let may = c.requires.start in
    let place : n < length b.nodes = omega (arith, so.whole, may.child) in
    let node = after_start _ (at b n) c.accept.new.self c.accept.ensures.after (read_at b n _ place c.index_mut.ensures.value) may.unbegun in
    record {
      after = changed_by e (in_state b n Running) 0 c.note.ensures.after refl (ap (with_node b n) node)
          (omega (arith, started_room b n place may.unbegun));
    }
