-- What a tree that grows stands for, and what its calls say.
use Rattle.std.specs.Prelude.{◌≡◌, ℕ, List, reverse, Ok, Err, vec_items, Result}
use Rattle.tree.specs.declared.growing.Growing.{Growing}
use Rattle.tree.specs.declared.growth.TreeFault.{TreeFault}
use Rattle.tree.specs.declared.node.Node.{Node}
use Rattle.tree.specs.declared.tree.Tree.{Tree}
use Rattle.tree.specs.Growth.{Growth, fault_number}
use Rattle.tree.specs.Questions.{nodes_of}

-- what a tree that grows stands for
abbrev pub growth : Growing → Growth
growth g = record { nodes = vec_items g.nodes; make = g.make; outer = reverse (vec_items g.outer); wait = g.wait }

-- a call did what is said: it grew so, or it was refused with this number and altered nothing
abbrev pub Grew : {X : Type 0} → Result Growth ℕ → Result X TreeFault → Growing → Growing → Type 0
Grew said (Ok _) before after = said ≡ Ok (growth after)
Grew said (Err e) before after = (said ≡ Err (fault_number e)) × (after ≡ before)

-- the finished tree has these nodes, or the fault has this number
abbrev pub Finished : Result (List Node) ℕ → Result Tree TreeFault → Type 0
Finished said (Ok t) = said ≡ Ok (nodes_of t)
Finished said (Err e) = said ≡ Err (fault_number e)
