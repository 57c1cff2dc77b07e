-- The memory of a tree.
use Rattle.std.specs.Prelude.{ℕ, vec_capacity}
use Rattle.tree.specs.declared.tree.Tree.{Tree}

-- for how many nodes it has memory
abbrev pub room_of : Tree → ℕ
room_of t = vec_capacity t.nodes
