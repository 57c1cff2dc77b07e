use Rattle.std.proofs.Common.{◌-◌, length, vec_items}
use Rattle.tree.proofs.Below.{Summed}
use Rattle.tree.proofs.tree.Tree.+below.Given as goal

abbrev pub decreases-below : goal.decreases-below
decreases-below l = l.levels

abbrev pub invariant-loop-next : goal.invariant-loop-next
invariant-loop-next l = Summed (vec_items l.self.nodes) l.n l.first l.sum l.next

abbrev pub decreases-loop-next : goal.decreases-loop-next
decreases-loop-next l = length (vec_items l.self.nodes) - l.next
