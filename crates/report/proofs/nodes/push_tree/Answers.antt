use Rattle.std.proofs.Common.{◌≡◌, ℕ, suc, ◌+◌, ◌-◌, ◌<◌, ◌++◌, ap, append_assoc, arith}
use Rattle.tree.specs.Questions.{count_of}
use Rattle.tree.specs.declared.tree.Tree.{Tree}
use Rattle.report.specs.Nodes.{node_line, lines_from}
use Rattle.report.proofs.nodes.push_tree.Goals as goal

-- the next node's line, and those behind it
lines_more : (t : Tree) (n : ℕ) → n < count_of t → lines_from t n (count_of t - n) ≡ node_line t n ++ lines_from t (n + 1) (count_of t - (n + 1))
lines_more t n within = let left : count_of t - n ≡ suc (count_of t - (n + 1)) = omega arith in ap (lines_from t n) left

pub loop-n-preserved : goal.loop-n-preserved
loop-n-preserved c =
    let more = lines_more c.args.tree.now c.loop-n.n (omega (arith, c.loop-n-test.true, c.count-n-end.ensures.result)) in
    rw (c.in_ok-write.ensures.bytes, append_assoc, ← more) c.loop-n.invariant
