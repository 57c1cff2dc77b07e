-- What the program prints for an input.
use Rattle.std.specs.Prelude.{◌≡◌, ℕ, List, ◌++◌, Ok, Err, Result}
use Rattle.drain.specs.Draining.{Drained}
use Rattle.drain.specs.declared.events.Event.{Event}
use Rattle.first_line.specs.Head.{Choice, a_pipe, a_semaphore, Head, head}
use Rattle.first_line.specs.Numbers.{number}
use Rattle.first_line.specs.declared.types.Refusal.{Refusal}
use Rattle.lines.specs.Faults.{Fault}
use Rattle.pipe.specs.Pipes as pipes
use Rattle.pool.specs.Ways.{Ways}
use Rattle.report.specs.Lines.{event_lines, refusal_line}
use Rattle.report.specs.Nodes.{tree_lines}
use Rattle.script.specs.Reading.{read_text}
use Rattle.semaphore.specs.Semaphores as semaphores
use Rattle.tree.specs.Questions.{nodes_of}
use Rattle.tree.specs.declared.node.Node.{Node}
use Rattle.tree.specs.declared.tree.Tree.{Tree}

-- The lines tell a round of obtaining and releasing all tokens, on a pool that was made so.
pub record Round {P : Type 0} (w : Ways P) (made : P → Type 0) (text : List ℕ) : Type 0 where
  pub pool : P
  pub fresh : made pool
  pub events : List Event
  pub end : P
  pub drained : Drained w pool events end
  pub lines : text ≡ event_lines events

abbrev pub Told : Choice → List ℕ → Type 0
Told (a_pipe bs) text = Round pipes.pipe_ways (pipes.AllIn bs) text
Told (a_semaphore n) text = Round semaphores.semaphore_ways (semaphores.AllIn n) text

-- The lines of a round, and behind them those of the tree that has these nodes.
pub record Shown (c : Choice) (nodes : List Node) (text : List ℕ) : Type 0 where
  pub round : List ℕ
  pub told : Told c round
  pub tree : Tree
  pub same : nodes_of tree ≡ nodes
  pub lines : text ≡ round ++ tree_lines tree

-- The script behind the first line was read, or it has a fault.
abbrev pub Scripted : Choice → Result (List Node) Fault → List ℕ → Type 0
Scripted c (Ok nodes) text = Shown c nodes text
Scripted c (Err f) text = text ≡ refusal_line f.number f.place.line

abbrev pub Answer : Result Head Refusal → List ℕ → Type 0
Answer (Ok h) text = Scripted h.pool (read_text h.rest) text
Answer (Err e) text = text ≡ refusal_line (number e) 0

-- A round on the pool that the first line asks for and the tree of the script behind it, or the first refusal.
abbrev pub Reported : List ℕ → List ℕ → Type 0
Reported input text = Answer (head input) text
