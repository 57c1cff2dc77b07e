use Rattle.std.proofs.Common.{◌<◌, length, refl, ap, ◌∙◌, arith}
use Rattle.rules.specs.Builds.{at, with_node}
use Rattle.rules.specs.Calls.{stop}
use Rattle.build.specs.Models.{model}
use Rattle.build.proofs.Altering.{read_at, remade_by, leaves_same}
use Rattle.build.proofs.Fitting.{same_room, fits}
use Rattle.build.proofs.work.Work.stop_make.Goals as goal

pub invariant_of-self : goal.invariant_of-self
invariant_of-self c =
    let e = c.args.self.now in
    let so = leaves_same e c.args.m c.index_mut.result.now c.stop.new.self c.requires.node c.index_mut.ensures.value (ap (λ x. x.state) c.stop.ensures.after) in
    record { whole = e.whole; wide = e.wide; few = so.few; listed = so.listed; noted = so.noted }

pub returns : goal.returns
returns c =
    let e = c.args.self.now in
    let b = model e in
    let m = c.args.m in
    let so = fits c.args.self.now in
    let place : m < length b.nodes = omega (arith, so.whole, c.requires.node) in
    let node = c.stop.ensures.after ∙ ap stop (read_at b m _ place c.index_mut.ensures.value) in
    record {
      after = remade_by e _ (with_node b m (stop (at b m))) refl (ap (with_node b m) node) (omega (arith, same_room b m place (stop (at b m)) refl refl));
    }
