use Rattle.std.proofs.Common.{◌<◌, ◌∷◌, length, refl, ap, arith}
use Rattle.rules.specs.Builds.{Build, at, in_state, with_tokens}
use Rattle.rules.specs.declared.progress.State.TheVariants.{Running}
use Rattle.build.specs.Models.{model}
use Rattle.build.proofs.Altering.{after_start, read_at, changed_by, leaves_started}
use Rattle.build.proofs.Fitting.{altered, fits, started_room, one_to_start}
use Rattle.build.proofs.Shown.{length_hand}
use Rattle.build.proofs.work.Work.start_with_token.Goals as goal

pub take_up-requires : goal.take_up-requires
take_up-requires c =
    let e = c.args.self.now in
    let so = fits e in
    let may = c.requires.start in
    let one = one_to_start (model e) c.args.start.child (omega (arith, so.whole, may.child)) may.unbegun in
    omega (arith, so.few, so.small, length_hand e.tokens, e.tokens.held.ok.0, e.tokens.room)

pub note-requires : goal.note-requires
note-requires c =
    let so = fits c.args.self.now in
    let may = c.requires.start in
    record { room = omega (arith, c.requires.room, started_room (model c.args.self.now) c.args.start.child (omega (arith, so.whole, may.child)) may.unbegun) }

pub invariant_of-self : goal.invariant_of-self
invariant_of-self c =
    let e = c.args.self.now in
    let so = leaves_started e c.args.start.child c.index_mut.result.now c.accept.new.self c.requires.start.child c.index_mut.ensures.value c.accept.ensures.after c.requires.start.unbegun in
    record { whole = e.whole; wide = e.wide; few = omega (arith, so.few, ap length c.take_up.ensures.after, length_hand e.tokens, length_hand c.take_up.new.self, e.tokens.held.ok.0, c.take_up.new.self.held.ok.0); listed = so.listed; noted = so.noted }

pub returns : goal.returns
returns c =
    let e = c.args.self.now in
    let b = model e in
    let n = c.args.start.child in
    let so = fits e in
    let may = c.requires.start in
    let place : n < length b.nodes = omega (arith, so.whole, may.child) in
    let node = after_start _ (at b n) c.accept.new.self c.accept.ensures.after (read_at b n _ place c.index_mut.ensures.value) may.unbegun in
    let ts = record { by = c.args.start.make; byte = c.args.byte } ∷ b.tokens in
    let after : Build = with_tokens (in_state b n Running) ts in
    record {
      after = changed_by e after 0 c.note.ensures.after refl (λ i. altered b n (node i) (c.take_up.ensures.after i) b.losses)
          (omega (arith, started_room b n place may.unbegun));
    }
