-- What each line of a script does to the nodes read so far, and what it may not do.
use Rattle.std.specs.Prelude.{ℕ, ◌+◌, Bool, true, false, cond, ◌&&◌, List, [], ◌∷◌, ◌++◌, length, Ok, Err, Result, ◌==◌, nat_le, nat_lt}
use Rattle.tree.specs.declared.node.Kind.{Kind}
use Rattle.tree.specs.declared.node.Kind.TheVariants.{Make, Job, Fail}
use Rattle.tree.specs.declared.node.Node.{Node}
use Rattle.tree.specs.declared.growth.TreeFault.{TreeFault}
use Rattle.tree.specs.declared.growth.TreeFault.TheVariants.{Steps, Level, Nodes, TotalSteps, Done, Childless}
use Rattle.tree.specs.Nodes.{top, total}

-- the nodes so far, the innermost open make, the makes around it from the inside out, and whether a wait is due
pub record Growth : Type 0 where
  pub nodes : List Node
  pub make : ℕ
  pub outer : List ℕ
  pub wait : Bool

-- the number of a fault
abbrev pub fault_number : TreeFault → ℕ
fault_number Steps = 5
fault_number Level = 6
fault_number Nodes = 7
fault_number TotalSteps = 8
fault_number Done = 9
fault_number Childless = 10

-- the top make alone, and open
abbrev pub start : Growth
start = record { nodes = top ∷ []; make = 0; outer = []; wait = false }

-- whether the innermost open make has no child yet: it is the last node
abbrev pub childless : Growth → Bool
childless g = g.make + 1 == length g.nodes

-- the kind of a job that fails or not
abbrev pub kind_of_job : Bool → Kind
kind_of_job true = Fail
kind_of_job false = Job

-- a job of d steps as the next child of the innermost open make
abbrev pub job_node : Bool → ℕ → Growth → Node
job_node fails d g =
    record { kind = kind_of_job fails; make = g.make; level = length g.outer; steps = d; wait = g.wait }

-- a make as the next child of the innermost open make
abbrev pub make_node : Growth → Node
make_node g = record { kind = Make; make = g.make; level = length g.outer + 1; steps = 0; wait = g.wait }

-- a job's line: its steps fit (5), there is room for a node (7) and for its steps (8)
abbrev pub job : Bool → ℕ → Growth → Result Growth ℕ
job fails d g =
    cond (nat_le 1 d && nat_le d 999)
    (cond (nat_lt (length g.nodes) 200)
    (cond (nat_le (total g.nodes + d) 20000)
    (Ok (record { nodes = g.nodes ++ job_node fails d g ∷ []; make = g.make; outer = g.outer; wait = false }))
    (Err 8))
    (Err 7))
    (Err 5)

-- a make's line: its level is below 8 (6) and there is room for a node (7); it is open from here
abbrev pub make : Growth → Result Growth ℕ
make g =
    cond (nat_lt (length g.outer) 7)
    (cond (nat_lt (length g.nodes) 200)
    (Ok (record { nodes = g.nodes ++ make_node g ∷ []; make = length g.nodes; outer = g.make ∷ g.outer; wait = false }))
    (Err 7))
    (Err 6)

-- the make around the innermost one is the innermost again
abbrev pub closed : Growth → List ℕ → Result Growth ℕ
closed g [] = Err 9
closed g (m ∷ ms) = cond (childless g) (Err 10) (Ok (record { nodes = g.nodes; make = m; outer = ms; wait = false }))

-- the line `done`: a nested make is open (9), with a child (10)
abbrev pub done : Growth → Result Growth ℕ
done g = closed g g.outer

-- the line `wait`: due at the next child, but not before the first
abbrev pub wait : Growth → Growth
wait g = record { nodes = g.nodes; make = g.make; outer = g.outer; wait = cond (childless g) false true }

-- all nodes, where every nested make is closed
abbrev pub ended : Growth → List ℕ → Result (List Node) ℕ
ended g [] = cond (childless g) (Err 10) (Ok g.nodes)
ended g (m ∷ ms) = Err 9

-- the end of the script: no nested make is open (9), and the top make has a child (10)
abbrev pub finish : Growth → Result (List Node) ℕ
finish g = ended g g.outer
