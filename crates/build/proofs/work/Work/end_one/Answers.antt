use Rattle.std.proofs.Common.{◌<◌, ◌≤◌, set, length, refl, ap, subst, arith, vec_len, ◌+◌}
use Rattle.rules.specs.Builds.{at}
use Rattle.rules.specs.Events.{state_of}
use Rattle.schedule.specs.Records.{size}
use Rattle.build.specs.Changes.{Changed}
use Rattle.build.specs.Ended.{ended_build}
use Rattle.build.specs.Models.{model}
use Rattle.build.specs.Rooms.{to_end, unended, unstarted}
use Rattle.build.proofs.Altering.{after_end, read_at, changed_by, ended_over, ended_none, ended_unstarted, ended_size, noted_few}
use Rattle.build.proofs.Fitting.{altered, fits, ended_room, one_to_end, leaves_set}
use Rattle.build.proofs.Shown.{length_hand, noted_long}
use Rattle.build.proofs.work.Work.end_one.Goals as goal

pub note_loss-requires : goal.note_loss-requires
note_loss-requires c =
    let e = c.args.self.now in
    let so = fits c.args.self.now in
    let one = one_to_end (model e) c.args.end.node (omega (arith, so.whole, c.requires.node)) c.requires.runs in
    let hand = length_hand e.tokens in
    record { listed = omega (arith, so.listed, noted_long e.losses, e.losses.ample); room = omega (arith, so.few, so.small, so.noted, hand, e.tokens.held.ok.0, e.losses.spare) }

pub note-requires : goal.note-requires
note-requires c =
    let e = c.args.self.now in
    let n = c.args.end.node in
    let how = c.args.end.how in
    let so = fits c.args.self.now in
    let falls = ended_room (model e) n (omega (arith, so.whole, c.requires.node)) (state_of how) (ended_over how) (ended_none how _) c.requires.runs in
    record { room = omega (arith, c.requires.room, ap size c.record.ensures, ended_size how n) }

pub invariant_of-self : goal.invariant_of-self
invariant_of-self c =
    let e = c.args.self.now in
    let b = model e in
    let n = c.args.end.node in
    let how = c.args.end.how in
    let runs = c.requires.runs in
    let place : n < length b.nodes = omega (arith, (fits e).whole, c.requires.node) in
    let node = after_end _ (at b n) c.accept.new.self how c.accept.ensures.after (read_at b n _ place c.index_mut.ensures.value) runs in
    let state = ap (λ x. x.state) node in
    let so = leaves_set e n c.accept.new.self (vec_len e.tokens.held) (vec_len e.losses.jobs + 1) (vec_len e.losses.bytes + 200) c.requires.node (omega (arith, ap unstarted state, ended_unstarted how)) (omega (arith, ap unended state, ended_over how, ap unended runs)) (omega (arith, ap unended state, ended_over how, ap unended runs)) in
    let after = c.note_loss.new.losses in
    let listed : vec_len after.jobs + to_end (set b.nodes n c.accept.new.self) ≤ 200 = omega (arith, so.listed, ap length c.note_loss.ensures.after, noted_few how n b, noted_long e.losses, noted_long after, e.losses.jobs.ok.0, after.jobs.ok.0) in
    record { whole = e.whole; wide = e.wide; few = so.few; listed = listed; noted = omega (arith, so.noted, c.note_loss.ensures.memory.used, e.few, (fits e).whole, (fits e).small, e.whole) }

pub returns : goal.returns
returns c =
    let e = c.args.self.now in
    let b = model e in
    let n = c.args.end.node in
    let how = c.args.end.how in
    let so = fits c.args.self.now in
    let runs = c.requires.runs in
    let place : n < length b.nodes = omega (arith, so.whole, c.requires.node) in
    let node = after_end _ (at b n) c.accept.new.self how c.accept.ensures.after (read_at b n _ place c.index_mut.ensures.value) runs in
    let after = ended_build how n b in
    let falls = ended_room b n place (state_of how) (ended_over how) (ended_none how _) runs in
    record {
      after = subst (λ r. Changed e c.args.buffer.now after r 5 c.note.new.self c.note.new.buffer) c.record.ensures
          (changed_by e after 5 c.note.ensures.after refl (λ i. altered b n (node i) b.tokens (c.note_loss.ensures.after i))
          (omega (arith, ap size c.record.ensures, ended_size how n)));
    }
