-- What reading a script answers, and what it leaves.
use Rattle.std.specs.Prelude.{◌≡◌, ℕ, List, Ok, Err, Result}
use Rattle.tree.specs.declared.node.Node.{Node}
use Rattle.tree.specs.declared.tree.Tree.{Tree}
use Rattle.tree.specs.Questions.{nodes_of}
use Rattle.script.specs.declared.faults.ReadError.{ReadError}
use Rattle.script.specs.declared.faults.ReadError.TheVariants.{Fault, NoMemory}
use Rattle.script.specs.declared.faults.ScriptFault.{ScriptFault}
use Rattle.script.specs.Grammar.{Script}
use Rattle.script.specs.Reading.{read_text}
use Rattle.script.specs.Values.{script_values}

-- the text is a script of the tree; or it has this fault, and the tree is the one that was there
abbrev pub Answered : List ℕ → Tree → Result (Unit {0}) ScriptFault → Tree → Type 0
Answered text before (Ok _) after = Script text (nodes_of after)
Answered text before (Err e) after = (read_text text ≡ Err (script_values e)) × (after ≡ before)

-- the same, or memory is wanting, and the tree is the one that was there
abbrev pub Read : List ℕ → Tree → Result (Unit {0}) ReadError → Tree → Type 0
Read text before (Ok r) after = Answered text before (Ok r) after
Read text before (Err (Fault e)) after = Answered text before (Err e) after
Read text before (Err NoMemory) after = after ≡ before

-- a text is a script of the nodes that its lines come to and of no others, so one with a fault is a script of none
pub record Exact (text : List ℕ) : Type 0 where
  pub comes_to : (ns : List Node) → Script text ns → read_text text ≡ Ok ns
  pub is_script : (ns : List Node) → read_text text ≡ Ok ns → Script text ns
  pub one_tree : (ns ms : List Node) → Script text ns → Script text ms → ns ≡ ms
