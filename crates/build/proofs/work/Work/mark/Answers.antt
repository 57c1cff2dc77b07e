use Rattle.std.proofs.Common.{◌<◌, length, sym, refl, ap, ◌∙◌, arith}
use Rattle.rules.specs.Builds.{at, with_node}
use Rattle.rules.specs.Ending.{marked}
use Rattle.build.specs.Ended.{marked_build}
use Rattle.build.specs.Models.{model}
use Rattle.build.specs.Rooms.{room}
use Rattle.build.proofs.Altering.{read_at, remade_by, leaves_same}
use Rattle.build.proofs.Fitting.{same_room, fits}
use Rattle.build.proofs.Upwards.{marked_err}
use Rattle.build.proofs.work.Work.mark.Goals as goal

pub invariant_of-self : goal.invariant_of-self
invariant_of-self c =
    let e = c.args.self.now in
    let so = leaves_same e c.args.m c.index_mut.result.now c.mark.new.self c.requires.node c.index_mut.ensures.value (ap (λ x. x.state) c.mark.ensures.after) in
    record { whole = e.whole; wide = e.wide; few = so.few; listed = so.listed; noted = so.noted }

pub returns-then-is_err : goal.returns-then-is_err
returns-then-is_err c =
    let e = c.args.self.now in
    let b = model e in
    let m = c.args.m in
    let n = c.args.end.node in
    let so = fits c.args.self.now in
    let place : m < length b.nodes = omega (arith, so.whole, c.requires.node) in
    let x = marked e.keep n (at b m) in
    let node = c.mark.ensures.after ∙ ap (marked e.keep n) (read_at b m _ place c.index_mut.ensures.value) in
    let how = sym (marked_err c.args.end.how m n b (sym c.if-is_err.ensures.value)) in
    record {
      after = remade_by e _ (marked_build c.args.end.how m n b) refl (ap (with_node b m) node ∙ how)
          (omega (arith, same_room b m place x refl refl, ap room how));
    }
