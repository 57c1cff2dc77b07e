use Rattle.std.proofs.Common.{◌≡◌, ◌-◌, ◌++◌, string_bytes}
use Rattle.tree.specs.Questions.{count_of}
use Rattle.report.specs.Nodes.{lines_from, tree_lines}
use Rattle.report.proofs.nodes.push_tree.Given as goal

abbrev pub invariant-loop-n : goal.invariant-loop-n
invariant-loop-n l = string_bytes l.text ++ lines_from l.tree l.n (count_of l.tree - l.n) ≡ string_bytes l.initial.text ++ tree_lines l.tree
