use Rattle.std.proofs.Common.{◌≡◌, false, ap, map, reverse, length, replicate, vec_items, refl, arith}
use Rattle.build.specs.Lost.{losses_by}
use Rattle.build.specs.Models.{held}
use lib.ListN.{length-replicate}
use Rattle.build.specs.Rooms.{to_start, to_end}
use Rattle.build.proofs.Fresh.{filled_table, fresh_starts, fresh_ends}
use Rattle.build.proofs.opening.unopened.Goals as goal
use Rattle.rules.specs.Builds.{unbegun}
use Rattle.rules.specs.Plans.{plan_of}
use Rattle.tree.specs.Questions.{nodes_of}

pub invariant_of-result : goal.invariant_of-result
invariant_of-result c =
    let t = c.in_ok-tree.tree in
    let count = c.count-count.ensures.result in
    let small = t.counted.1 in
    let empty = c.in_ok-nodes.ensures in
    let resized = c.resize.ensures in
    let ok = resized.succeeds (omega (arith, empty.capacity, count, small)) in
    let nodes : vec_items c.resize.new.self ≡ replicate (length (nodes_of t)) unbegun = filled_table _ _ _ _ _ _ resized.items ok empty.items empty.len count in
    let long = length-replicate (length (nodes_of t)) unbegun in
    let places = c.resize.new.self.ok.0 in
    record {
      whole = omega (arith, ap length nodes);
      wide = omega (arith, empty.capacity, resized.capacity, c.in_ok-tree.ensures.result.1);
      few = omega (arith, ap to_start nodes, fresh_starts t false, ap length nodes, c.in_ok-held.ensures.len);
      listed = omega (arith, ap to_end nodes, fresh_ends t false, c.in_ok-jobs.ensures.len);
      noted = omega (arith, ap to_end nodes, fresh_ends t false, c.in_ok-bytes.ensures.len);
    }

pub returns : goal.returns
returns c =
    let t = c.in_ok-tree.tree in
    let count = c.count-count.ensures.result in
    let small = t.counted.1 in
    let empty = c.in_ok-nodes.ensures in
    let resized = c.resize.ensures in
    let ok = resized.succeeds (omega (arith, empty.capacity, count, small)) in
    let nodes : vec_items c.resize.new.self ≡ replicate (length (nodes_of t)) unbegun = filled_table _ _ _ _ _ _ resized.items ok empty.items empty.len count in
    let none = c.in_ok-held.ensures in
    let jobs = c.in_ok-jobs.ensures in
    let bytes = c.in_ok-bytes.ensures in
    record {
      result = (
        record {
          build = λ i. record { plan = plan_of (nodes_of t); keep = false; nodes = nodes i; tokens = reverse (map held (none.items i)); losses = losses_by (reverse (jobs.items i)) (bytes.items i) };
          none = bytes.len;
          written = refl;
        },
        c.in_ok-tree.ensures.result.0,
      );
    }
