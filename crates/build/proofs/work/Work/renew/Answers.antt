use Rattle.std.proofs.Common.{◌≡◌, false, ap, map, reverse, length, replicate, vec_items, refl, arith}
use Rattle.build.specs.Lost.{losses_by}
use Rattle.build.specs.Models.{held}
use lib.ListN.{length-replicate}
use Rattle.build.specs.Rooms.{to_start, to_end}
use Rattle.build.proofs.Fresh.{filled_table, fresh_starts, fresh_ends}
use Rattle.build.proofs.work.Work.renew.Goals as goal
use Rattle.rules.specs.Builds.{unbegun}
use Rattle.rules.specs.Plans.{plan_of}
use Rattle.tree.specs.Questions.{nodes_of}

pub invariant_of-self-4 : goal.invariant_of-self-4
invariant_of-self-4 c =
    let t = c.args.tree.now in
    let e = c.args.self.now in
    let count = c.count-count.ensures.result in
    let small = t.counted.1 in
    let copy = c.copy_from.ensures in
    let ok = copy.succeeds (omega (arith, e.wide, small)) in
    let copied : nodes_of c.copy_from.new.self ≡ nodes_of t = rw ok at copy.nodes in
    let cleared = c.clear.ensures in
    let resized = c.resize.ensures in
    let all = resized.succeeds (omega (arith, e.wide, cleared.capacity, count, small)) in
    let nodes : vec_items c.resize.new.self ≡ replicate (length (nodes_of t)) unbegun = filled_table _ _ _ _ _ _ resized.items all cleared.items cleared.len count in
    let long = length-replicate (length (nodes_of t)) unbegun in
    let places = c.resize.new.self.ok.0 in
    record {
      whole = omega (arith, ap length nodes, ap length copied);
      wide = omega (arith, e.wide, cleared.capacity, resized.capacity, copy.room);
      few = omega (arith, ap to_start nodes, fresh_starts t false, ap length nodes, c.clear-2.ensures.len);
      listed = omega (arith, ap to_end nodes, fresh_ends t false, c.clear-3.ensures.len);
      noted = omega (arith, ap to_end nodes, fresh_ends t false, c.clear-4.ensures.len);
    }

pub returns : goal.returns
returns c =
    let t = c.args.tree.now in
    let e = c.args.self.now in
    let count = c.count-count.ensures.result in
    let small = t.counted.1 in
    let copy = c.copy_from.ensures in
    let ok = copy.succeeds (omega (arith, e.wide, small)) in
    let copied : nodes_of c.copy_from.new.self ≡ nodes_of t = rw ok at copy.nodes in
    let cleared = c.clear.ensures in
    let resized = c.resize.ensures in
    let all = resized.succeeds (omega (arith, e.wide, cleared.capacity, count, small)) in
    let nodes : vec_items c.resize.new.self ≡ replicate (length (nodes_of t)) unbegun = filled_table _ _ _ _ _ _ resized.items all cleared.items cleared.len count in
    record {
      after = record {
        build = λ i. record { plan = plan_of (copied i); keep = c.args.keep; nodes = nodes i; tokens = reverse (map held (c.clear-2.ensures.items i)); losses = losses_by (reverse (c.clear-3.ensures.items i)) (c.clear-4.ensures.items i) };
        none = c.clear-4.ensures.len;
        written = refl;
      };
    }
