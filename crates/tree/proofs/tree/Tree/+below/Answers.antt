use Rattle.std.proofs.Common.{◌≡◌, ℕ, ◌+◌, ◌-◌, ◌<◌, length, vec_items, ap, ◌∙◌, arith}
use Rattle.std.proofs.lemmas.List.{get_or_read_under}
use Rattle.tree.specs.Nodes.{top}
use Rattle.tree.proofs.Below.{Summed, sum_bound, sum_end, left_none, left_out, sum_read, sum_below, not_behind}
use Rattle.tree.proofs.tree.Tree.+below.Goals as goal
use Rattle.tree.proofs.tree.Tree.+below.Goals.{After-below-more}

pub overflow_add-sum : goal.overflow_add-sum
overflow_add-sum t c =
    let tree = c.args.self.now in
    let more = sum_read _ _ _ _ _ c.loop-next.invariant _ _ _ c.index.ensures c.index-in-loop-next.ensures (omega (arith, c.len.ensures)) tree.nodes.ok.0 c.if-index-n.true in
    omega (arith, tree.counted, sum_bound _ _ _ _ _ more)

-- with the nodes below one more make
descended : (t : ℕ) (c : After-below-more t) → Summed (vec_items c.args.self.now.nodes) c.args.n c.args.first (c.loop-next.sum + c.index-in-loop-next.result.now.steps + c.below-more.result.0) c.below-more.result.1
descended t c =
    let tree = c.args.self.now in
    let ns = vec_items tree.nodes in
    let next = c.loop-next.next in
    let ok = tree.nodes.ok.0 in
    let lt : next < c.len.result = c.loop-next-test.true in
    let long : c.len.result ≡ length ns = c.len.ensures ∙ ok in
    let more = sum_read ns c.args.n c.args.first c.loop-next.sum next c.loop-next.invariant c.len.result c.index.result.now c.index-in-loop-next.result.now c.index.ensures c.index-in-loop-next.ensures lt long c.if-index-n.true in
    let late = not_behind ns tree.placed tree.topped c.args.n next c.len.result c.index.result.now c.index.ensures lt long c.if-index-n.true in
    sum_below ns c.args.n c.args.first (c.loop-next.sum + c.index-in-loop-next.result.now.steps) (next + 1) more (next + 1 - 1) c.below-more.result.0 c.below-more.result.1 (omega arith) c.below-more.ensures.result c.below-more.ensures.behind

pub overflow_add-sum-then-levels-gt0 : goal.overflow_add-sum-then-levels-gt0
overflow_add-sum-then-levels-gt0 t c = omega (arith, c.args.self.now.counted, sum_bound _ _ _ _ _ (descended t c))

pub loop-next-preserved-then-levels-gt0 : goal.loop-next-preserved-then-levels-gt0
loop-next-preserved-then-levels-gt0 t c = descended t c

pub loop-next-preserved : goal.loop-next-preserved
loop-next-preserved t c =
    sum_read _ _ _ _ _ c.loop-next.invariant _ _ _ c.index.ensures c.index-in-loop-next.ensures (omega (arith, c.len.ensures)) c.args.self.now.nodes.ok.0 c.if-index-n.true

pub returns-else-index-n : goal.returns-else-index-n
returns-else-index-n t c =
    let tree = c.args.self.now in
    let ns = vec_items tree.nodes in
    let next = c.loop-next.next in
    let ok = tree.nodes.ok.0 in
    let is = get_or_read_under ns next _ _ top c.index.ensures (omega (arith, c.len.ensures)) ok in
    let e = sum_end ns c.args.n c.args.first c.loop-next.sum next c.loop-next.invariant (left_out ns c.args.n c.args.first c.loop-next.sum next c.loop-next.invariant (omega arith) (omega (arith, ap (λ x. x.make) is))) in
    record { result = e.0; behind = e.1 }

pub returns-after-loop-next : goal.returns-after-loop-next
returns-after-loop-next t c =
    let tree = c.args.self.now in
    let ns = vec_items tree.nodes in
    let ok = tree.nodes.ok.0 in
    let e = sum_end ns c.args.n c.args.first c.loop-next.sum c.loop-next.next c.loop-next.invariant (left_none ns c.args.n c.args.first c.loop-next.sum c.loop-next.next c.loop-next.invariant (omega arith)) in
    record { result = e.0; behind = e.1 }
