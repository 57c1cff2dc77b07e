-- The questions that a tree answers. Every rule reads a tree through these alone.
use Rattle.std.specs.Prelude.{◌≡◌, ℕ, ◌+◌, ◌*◌, ◌<◌, ◌≤◌, Bool, false, cond, List, [], ◌∷◌, length, drop, Some, None, Ok, Err, vec_items, Option, Result, ◌==◌, nat_le, nat_lt}
use Rattle.std.specs.Borrow.{Bor}
use Rattle.std.specs.Global.{Vec}
use Rattle.tree.specs.declared.node.Kind.{Kind}
use Rattle.tree.specs.declared.node.Kind.TheVariants.{Job}
use Rattle.tree.specs.declared.node.Node.{Node}
use Rattle.tree.specs.declared.questions.Unanswered.{Unanswered}
use Rattle.tree.specs.declared.questions.Unanswered.TheVariants.{NotInTree, NoMemory}
use Rattle.tree.specs.declared.tree.Tree.{Tree}
use Rattle.tree.specs.Nodes.{top, at, is_make, total}

-- the nodes in script order
abbrev pub nodes_of : Tree → List Node
nodes_of t = vec_items t.nodes

-- how many nodes there are
abbrev pub count_of : Tree → ℕ
count_of t = length (nodes_of t)

-- make, job that ends well, or job that fails
abbrev pub kind_of : Tree → ℕ → Kind
kind_of t n = (at (nodes_of t) n).kind

-- the make that node n belongs to; none for the top make
abbrev pub make_of : Tree → ℕ → Option ℕ
make_of t n = cond (n == 0) None (Some (at (nodes_of t) n).make)

-- 0 for the top make and its jobs, one more for each make further in
abbrev pub level_of : Tree → ℕ → ℕ
level_of t n = (at (nodes_of t) n).level

-- a job's steps; 0 for a make
abbrev pub steps_of : Tree → ℕ → ℕ
steps_of t n = (at (nodes_of t) n).steps

-- whether a wait stands before node n
abbrev pub wait_of : Tree → ℕ → Bool
wait_of t n = (at (nodes_of t) n).wait

-- of the nodes ns, the first of which is node k, the numbers of those that belong to make m
unfoldable pub belonging : ℕ → ℕ → List Node → List ℕ
belonging m k [] = []
belonging m k (x ∷ xs) = let rest = belonging m (k + 1) xs in cond (x.make == m) (k ∷ rest) rest

-- the children of make m in order
abbrev pub children_of : Tree → ℕ → List ℕ
children_of t m = belonging m 1 (drop 1 (nodes_of t))

-- all steps together
abbrev pub total_of : Tree → ℕ
total_of t = total (nodes_of t)

-- of the nodes ns, those at the front that belong to node m or to a node behind it
unfoldable pub front_of : ℕ → List Node → List Node
front_of m [] = []
front_of m (x ∷ xs) = cond (nat_le m x.make) (x ∷ front_of m xs) []

-- the nodes below node n: those behind it, up to the first that belongs to a node before it
abbrev pub below_of : Tree → ℕ → List Node
below_of t n = front_of n (drop (n + 1) (nodes_of t))

-- the steps of node n and of all nodes below it
abbrev pub subtree_of : Tree → ℕ → ℕ
subtree_of t n = steps_of t n + total (below_of t n)

-- the bytes that a schedule of this tree needs
abbrev pub schedule_of : Tree → ℕ
schedule_of t = 7 + 12 * count_of t + 2 * total_of t

-- a job of one step, ending well, of the top make
abbrev pub first_job : Node
first_job = record { kind = Job; make = 0; level = 0; steps = 1; wait = false }

-- the nodes of a fresh tree
abbrev pub fresh : List Node
fresh = top ∷ first_job ∷ []

-- the number of a refusal; want of memory has none
abbrev pub number_of : Unanswered → Option ℕ
number_of NotInTree = Some 21
number_of NoMemory = None

-- the answer to a question about node n, refused where n is not in the tree
abbrev pub asked : {X : Type 0} → Tree → ℕ → X → Result X Unanswered
asked t n x = cond (nat_lt n (count_of t)) (Ok x) (Err NotInTree)

-- the node that was looked for, by its value
abbrev pub told_node : Result (Bor Node) Unanswered → Result Node Unanswered
told_node (Ok x) = Ok x.now
told_node (Err e) = Err e

-- the answer to the question for the children of node n, which takes memory
abbrev pub Listed : Tree → ℕ → Result (Vec ℕ) Unanswered → Type 0
Listed t n (Ok v) = (n < count_of t) × (vec_items v ≡ children_of t n)
Listed t n (Err NotInTree) = count_of t ≤ n
Listed t n (Err NoMemory) = n < count_of t

-- no node belongs to a job
abbrev pub ChildlessJob : Tree → ℕ → Type 0
ChildlessJob t n = is_make (nodes_of t) n ≡ false → children_of t n ≡ []

-- the whole tree is the subtree of the top make
abbrev pub WholeSubtree : Tree → Type 0
WholeSubtree t = subtree_of t 0 ≡ total_of t
