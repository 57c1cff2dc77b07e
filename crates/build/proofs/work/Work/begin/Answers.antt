use Rattle.std.proofs.Common.{◌≡◌, ℕ, ◌+◌, ◌<◌, Bool, true, false, length, refl, ap, subst, arith}
use Rattle.rules.specs.Builds.{at, in_state, with_node}
use Rattle.rules.specs.Calls.{bit}
use Rattle.std.specs.Int.{from_bool}
use Rattle.rules.specs.declared.progress.State.TheVariants.{Running}
use Rattle.schedule.specs.declared.record.Record.TheVariants.{Open}
use Rattle.build.specs.Changes.{Changed}
use Rattle.build.specs.Models.{model}
use Rattle.build.proofs.Altering.{after_start, read_at, changed_by, leaves_started}
use Rattle.build.proofs.Fitting.{started_room, fits}
use Rattle.build.proofs.work.Work.begin.Goals as goal

bit_of : (k : Bool) (n : ℕ) → n ≡ from_bool k → n ≡ bit k
bit_of true n e = e
bit_of false n e = e

pub note-requires : goal.note-requires
note-requires c =
    let e = c.args.self.now in
    let so = fits c.args.self.now in
    record { room = omega (arith, c.requires.room, started_room (model e) 0 (omega (arith, so.whole, e.tree.counted.0)) c.requires.waits) }

pub invariant_of-self : goal.invariant_of-self
invariant_of-self c =
    let e = c.args.self.now in
    let so = leaves_started e 0 c.index_mut.result.now c.accept.new.self e.tree.counted.0 c.index_mut.ensures.value c.accept.ensures.after c.requires.waits in
    record { whole = e.whole; wide = e.wide; few = omega (arith, so.few); listed = so.listed; noted = so.noted }

pub returns : goal.returns
returns c =
    let e = c.args.self.now in
    let b = model e in
    let so = fits c.args.self.now in
    let waits = c.requires.waits in
    let place : 0 < length b.nodes = omega (arith, so.whole, e.tree.counted.0) in
    let node = after_start _ (at b 0) c.accept.new.self c.accept.ensures.after (read_at b 0 _ place c.index_mut.ensures.value) waits in
    let same : Open (c.args.tokens + 1) c.from-keep.result c.count-nodes.result ≡ Open (c.args.tokens + 1) (bit e.keep) b.plan.nodes = λ i. Open (c.args.tokens + 1) (bit_of e.keep _ c.from-keep.ensures i) (c.count-nodes.ensures.result i) in
    record {
      after = subst (λ r. Changed e c.args.buffer.now (in_state b 0 Running) r 0 c.note.new.self c.note.new.buffer) same
          (changed_by e (in_state b 0 Running) 0 c.note.ensures.after refl (ap (with_node b 0) node)
          (omega (arith, started_room b 0 place waits)));
    }
