-- The tree of the worked script, with all that a tree keeps.
use Rattle.std.proofs.Common.{◌≡◌, ℕ, true, false, List, [], ◌∷◌, take, refl, arith, lit<, lit≤}
use denote.RawPtr.{null_ptr}
use Rattle.rules.specs.Plans.{Plan, plan_of}
use Rattle.std.proofs.lemmas.Bool.{false≢true}
use Rattle.tree.proofs.Facts.{start_facts, job_facts, make_facts, done_facts, all_fed}
use Rattle.tree.specs.Kept.{Fed, Growable}
use Rattle.tree.specs.Nodes.{top, total}
use Rattle.tree.specs.Questions.{nodes_of}
use Rattle.tree.specs.declared.node.Kind.{Kind}
use Rattle.tree.specs.declared.node.Kind.TheVariants.{Make, Job, Fail}
use Rattle.tree.specs.declared.node.Node.{Node}
use Rattle.tree.specs.declared.tree.Tree.{Tree}

-- a node that no wait stands before
abbrev pub node : Kind → ℕ → ℕ → ℕ → Node
node kind make level steps = record { kind = kind; make = make; level = level; steps = steps; wait = false }

-- the last job, behind a wait
abbrev pub after_wait : Node
after_wait = record { kind = Job; make = 0; level = 0; steps = 1; wait = true }

-- its nodes
abbrev pub nodes_z : List Node
nodes_z = top ∷ node Job 0 0 2 ∷ node Make 0 1 0 ∷ node Job 2 1 1 ∷ node Fail 2 1 2 ∷ node Job 2 1 1 ∷ after_wait ∷ []

-- they are the nodes of a tree: they grow from the top make, line by line
pub facts_z : Growable nodes_z [] 0
unfolding total
facts_z =
    let none : false ≡ true → ⊥ = false≢true in
    let a = job_facts (top ∷ []) [] 0 start_facts (node Job 0 0 2) refl refl (lit≤ tt) refl (λ e. absurd (none e)) (lit< tt) (lit≤ tt) refl in
    let b = make_facts (take 2 nodes_z) [] 0 a (node Make 0 1 0) refl refl (lit≤ tt) refl (λ e. absurd (none e)) (lit< tt) (lit≤ tt) refl in
    let c = job_facts (take 3 nodes_z) (0 ∷ []) 2 b (node Job 2 1 1) refl refl (lit≤ tt) refl (λ e. absurd (none e)) (lit< tt) (lit≤ tt) refl in
    let d = job_facts (take 4 nodes_z) (0 ∷ []) 2 c (node Fail 2 1 2) refl refl (lit≤ tt) refl (λ e. absurd (none e)) (lit< tt) (lit≤ tt) refl in
    let e = job_facts (take 5 nodes_z) (0 ∷ []) 2 d (node Job 2 1 1) refl refl (lit≤ tt) refl (λ e. absurd (none e)) (lit< tt) (lit≤ tt) refl in
    let f = done_facts (take 6 nodes_z) [] 0 2 e (λ z. absurd (omega arith)) in
    job_facts (take 6 nodes_z) [] 0 f after_wait refl refl (lit≤ tt) refl (λ e. lit< tt) (lit< tt) (lit≤ tt) refl

-- every make has a child
pub fed_z : Fed nodes_z
fed_z = all_fed nodes_z 0 facts_z (λ e. absurd (omega arith))

-- all steps together
pub sum_z : ◌≡◌ {A = ℕ} 7 (total nodes_z)
unfolding total
sum_z = refl

-- the tree, held in a vector anywhere
abbrev pub tree_z : Tree
tree_z = record {
  nodes = record { ptr = null_ptr; len = 7; cap = 200; alloc = record { memory = record { seal = tt } }; items = nodes_z; ok = (refl, lit≤ tt); small = lit< tt };
  steps = 7;
  counted = facts_z.shaped.counted;
  topped = facts_z.shaped.topped;
  placed = facts_z.shaped.placed;
  together = facts_z.shaped.together;
  levelled = facts_z.shaped.levelled;
  sized = facts_z.shaped.sized;
  parted = facts_z.shaped.parted;
  fed = fed_z;
  summed = sum_z;
}

-- its plan
abbrev pub plan_z : Plan
plan_z = plan_of (nodes_of tree_z)
