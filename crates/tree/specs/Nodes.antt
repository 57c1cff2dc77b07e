-- What a list of nodes tells: the nodes of a tree in script order, node n at place n.
use Rattle.std.specs.Prelude.{ℕ, ◌+◌, Bool, true, false, List, [], ◌∷◌, slice_index_or}
use Rattle.tree.specs.declared.node.Kind.{Kind}
use Rattle.tree.specs.declared.node.Kind.TheVariants.{Make, Job, Fail}
use Rattle.tree.specs.declared.node.Node.{Node}

-- node 0 of every tree
abbrev pub top : Node
top = record { kind = Make; make = 0; level = 0; steps = 0; wait = false }

-- node n
abbrev pub at : List Node → ℕ → Node
at ns n = slice_index_or ns n top

-- whether a node of this kind is a make
abbrev pub makes : Kind → Bool
makes Make = true
makes Job = false
makes Fail = false

-- whether node n is a make
abbrev pub is_make : List Node → ℕ → Bool
is_make ns n = makes (at ns n).kind

-- all steps together
unfoldable pub total : List Node → ℕ
total [] = 0
total (x ∷ xs) = x.steps + total xs
