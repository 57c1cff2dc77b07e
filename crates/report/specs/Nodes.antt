-- The printed lines of a tree: one for each node.
use Rattle.std.specs.Prelude.{ℕ, zero, suc, ◌+◌, Bool, true, false, List, [], ◌∷◌, ◌++◌, Some, None, codes, decimal, Option}
use Rattle.tree.specs.Questions.{count_of, kind_of, make_of, level_of, steps_of, wait_of}
use Rattle.tree.specs.declared.node.Kind.{Kind}
use Rattle.tree.specs.declared.node.Kind.TheVariants.{Make, Job, Fail}
use Rattle.tree.specs.declared.tree.Tree.{Tree}

-- The word for a kind of node, as scripts have it.
abbrev pub kind_text : Kind → List ℕ
kind_text Make = codes "make"
kind_text Job = codes "job"
kind_text Fail = codes "fail"

-- The make that a node belongs to, if there is one.
abbrev pub make_text : Option ℕ → List ℕ
make_text None = []
make_text (Some m) = codes " in " ++ decimal m

abbrev pub wait_text : Bool → List ℕ
wait_text true = codes " wait"
wait_text false = []

-- A node's number, kind, level and steps, its make, and whether a wait stands before it.
abbrev pub node_text : ℕ → Kind → ℕ → ℕ → Option ℕ → Bool → List ℕ
node_text n kind level steps make wait = codes "node " ++ (decimal n ++ (codes " " ++ (kind_text kind ++ (codes " level " ++ (decimal level ++ (codes " steps " ++ (decimal steps ++ (make_text make ++ (wait_text wait ++ (10 ∷ []))))))))))

abbrev pub node_line : Tree → ℕ → List ℕ
node_line t n = node_text n (kind_of t n) (level_of t n) (steps_of t n) (make_of t n) (wait_of t n)

-- The lines of n nodes from node k on.
abbrev pub lines_from : Tree → ℕ → ℕ → List ℕ
lines_from t k zero = []
lines_from t k (suc n) = node_line t k ++ lines_from t (k + 1) n

-- The lines of all nodes, in rising number.
abbrev pub tree_lines : Tree → List ℕ
tree_lines t = lines_from t 0 (count_of t)
