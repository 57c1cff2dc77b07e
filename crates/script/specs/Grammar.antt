-- The grammar of scripts: which texts are scripts, and of which nodes.
use Rattle.std.specs.Prelude.{◌≡◌, ℕ, ◌+◌, ◌≤◌, Bool, true, false, List, [], ◌∷◌, ◌++◌, length, Ok}
use Rattle.lines.specs.declared.forms.Form.{Form}
use Rattle.lines.specs.declared.forms.Form.TheVariants.{Job, Fail, Make, Done, Wait}
use Rattle.lines.specs.Forms.{read_line}
use Rattle.tree.specs.declared.node.Node.{Node}
use Rattle.tree.specs.declared.node.Kind.{Kind}
use Rattle.tree.specs.declared.node.Kind.TheVariants as kind
use Rattle.tree.specs.Nodes.{top, makes, total}

-- a text is made of lines, each ended by byte 10, and each with a form
pub data Lines : List ℕ → List Form → Type 0 where
  none : Lines [] []
  line : (l : List ℕ) {rest : List ℕ} {f : Form} {fs : List Form} → read_line l true ≡ Ok f → Lines rest fs → Lines (l ++ 10 ∷ rest) (f ∷ fs)

-- a job of d steps in make m on level l, with a wait before it or not
abbrev pub job_of : Kind → ℕ → ℕ → ℕ → Bool → Node
job_of k m l d w = record { kind = k; make = m; level = l; steps = d; wait = w }

-- Body m l n c w fs ns: in make m on level l, with number n next, the lines fs are the nodes ns.
-- c says whether the make has a child before them, and w whether a wait stands before the next child.
pub data Body : ℕ → ℕ → ℕ → Bool → Bool → List Form → List Node → Type 0 where
  -- no line is no node
  ends : {m l n : ℕ} {c w : Bool} → Body m l n c w [] []
  -- a wait stands before the next child, unless that is the first; one before the end, or behind another, is as none
  wait : {m l n : ℕ} {c w : Bool} {fs : List Form} {ns : List Node} → Body m l n c c fs ns → Body m l n c w (Wait ∷ fs) ns
  -- a job that ends well has 1 to 999 steps
  job : {m l n d : ℕ} {c w : Bool} {fs : List Form} {ns : List Node} → 1 ≤ d → d ≤ 999 → Body m l (n + 1) true false fs ns → Body m l n c w (Job d ∷ fs) (job_of kind.Job m l d w ∷ ns)
  -- so has a job that fails
  fail : {m l n d : ℕ} {c w : Bool} {fs : List Form} {ns : List Node} → 1 ≤ d → d ≤ 999 → Body m l (n + 1) true false fs ns → Body m l n c w (Fail d ∷ fs) (job_of kind.Fail m l d w ∷ ns)
  -- a nested make is on the next level and has a body of its own, with a node in it, up to its `done`
  make : {m l n : ℕ} {c w : Bool} {inner fs : List Form} {x : Node} {xs ns : List Node} → Body n (l + 1) (n + 1) false false inner (x ∷ xs) → Body m l (n + 1 + length (x ∷ xs)) true false fs ns → Body m l n c w (Make ∷ (inner ++ Done ∷ fs)) (job_of kind.Make m (l + 1) 0 w ∷ (x ∷ xs) ++ ns)

-- no make is deeper than level 7
abbrev pub Shallow : List Node → Type 0
Shallow [] = Unit {0}
Shallow (x ∷ xs) = (makes x.kind ≡ true → x.level ≤ 7) × Shallow xs

-- the text is a script of these nodes: the body of the top make, with a node in it, within the limits
pub record Script (text : List ℕ) (ns : List Node) : Type 0 where
  pub forms : List Form
  pub first : Node
  pub more : List Node
  pub lines : Lines text forms
  pub body : Body 0 0 1 false false forms (first ∷ more)
  pub nodes : ns ≡ top ∷ (first ∷ more)
  pub short : length text ≤ 16384
  pub few : length ns ≤ 200
  pub sum : total ns ≤ 20000
  pub shallow : Shallow ns
