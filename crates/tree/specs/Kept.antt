-- What holds of the nodes of every tree, and of a tree that still grows.
use Rattle.std.specs.Prelude.{◌≡◌, ℕ, ◌+◌, ◌<◌, ◌≤◌, Bool, true, false, cond, ◌&&◌, List, [], ◌∷◌, ◌++◌, length, ◌==◌, nat_le, slice_index}
use Rattle.tree.specs.declared.node.Node.{Node}
use Rattle.tree.specs.Nodes.{at, is_make, makes, total}

-- at least the top make, at most 200 nodes and at most 20,000 steps
abbrev pub Counted : List Node → Type 0
Counted ns = (0 < length ns) × (length ns ≤ 200) × (total ns ≤ 20000)

-- node 0 is a make on level 0, with no wait before it
abbrev pub Topped : List Node → Type 0
Topped ns = (is_make ns 0 ≡ true) × ((at ns 0).make ≡ 0) × ((at ns 0).level ≡ 0) × ((at ns 0).wait ≡ false)

-- every other node belongs to a make before it
abbrev pub Placed : List Node → Type 0
Placed ns = (n : ℕ) → (0 < n) × (n < length ns) → ((at ns n).make < n) × (is_make ns (at ns n).make ≡ true)

-- the nodes between a make and its child are of that make too: script order
abbrev pub Together : List Node → Type 0
Together ns = (n k : ℕ) → ((at ns n).make < k) × (k < n) × (n < length ns) → (at ns n).make ≤ (at ns k).make

-- a nested make is one level below its make, a job on the level of its make, and no level is above 7
abbrev pub Levelled : List Node → Type 0
Levelled ns =
    (n : ℕ) → (0 < n) × (n < length ns) →
    ((at ns n).level ≡ (at ns (at ns n).make).level + cond (is_make ns n) 1 0) × ((at ns n).level ≤ 7)

-- a make has no steps of its own, a job 1 to 999
abbrev pub steps_fit : Node → Bool
steps_fit x = cond (makes x.kind) (x.steps == 0) (nat_le 1 x.steps && nat_le x.steps 999)

-- each node has such steps
abbrev pub Sized : List Node → Type 0
Sized ns = (n : ℕ) → n < length ns → steps_fit (at ns n) ≡ true

-- no wait stands before a make's first child, which is the node behind the make
abbrev pub Parted : List Node → Type 0
Parted ns = (n : ℕ) → (n < length ns) × ((at ns n).wait ≡ true) → (at ns n).make + 1 < n

-- what holds of the nodes of a tree, and of those of one that still grows
pub record Shaped (ns : List Node) : Type 0 where
  pub counted : Counted ns
  pub topped : Topped ns
  pub placed : Placed ns
  pub together : Together ns
  pub levelled : Levelled ns
  pub sized : Sized ns
  pub parted : Parted ns

-- every make has a child, the node behind it
abbrev pub Fed : List Node → Type 0
Fed ns = (m : ℕ) → (m < length ns) × (is_make ns m ≡ true) → (m + 1 < length ns) × ((at ns (m + 1)).make ≡ m)

-- the same of every make but the last node
abbrev pub FedBefore : List Node → Type 0
FedBefore ns = (m : ℕ) → (m + 1 < length ns) × (is_make ns m ≡ true) → (at ns (m + 1)).make ≡ m

-- m is a make of this level
abbrev pub MakeOn : List Node → ℕ → ℕ → Type 0
MakeOn ns m level = (m < length ns) × (is_make ns m ≡ true) × ((at ns m).level ≡ level)

-- the open makes, the top make first, each on the level of its place
abbrev pub Stacked : List Node → List ℕ → Type 0
Stacked ns open-makes = (i : ℕ) → i < length open-makes → MakeOn ns (slice_index open-makes i) i

-- each stands behind those before it
abbrev pub Rising : List ℕ → Type 0
Rising open-makes =
    (i j : ℕ) → (i < j) × (j < length open-makes) → slice_index open-makes i < slice_index open-makes j

-- all nodes behind an open make are of it
abbrev pub Open : List Node → List ℕ → Type 0
Open ns open-makes =
    (i k : ℕ) → (i < length open-makes) × (slice_index open-makes i < k) × (k < length ns) →
    slice_index open-makes i ≤ (at ns k).make

-- if the last node is a make, it is the innermost open one
abbrev pub Innermost : List Node → ℕ → Type 0
Innermost ns m = (k : ℕ) → (k + 1 ≡ length ns) × (is_make ns k ≡ true) → m ≡ k

-- what holds of the nodes of a tree that still grows: m is the innermost open make, and outer has those around it
pub record Growable (ns : List Node) (outer : List ℕ) (m : ℕ) : Type 0 where
  pub shaped : Shaped ns
  pub fed : FedBefore ns
  pub stacked : Stacked ns (outer ++ m ∷ [])
  pub rising : Rising (outer ++ m ∷ [])
  pub opened : Open ns (outer ++ m ∷ [])
  pub innermost : Innermost ns m
