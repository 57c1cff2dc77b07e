-- How the reader goes from line to line.
use Rattle.std.specs.Prelude.{◌≡◌, ℕ, ◌+◌, ◌<◌, ◌≤◌, Bool, true, List, ◌∷◌, length, take, drop, Some, None, Ok, Err, Option, Result, ◌≢◌, nat_lt}
use Rattle.lines.specs.declared.faults.LineFault.{LineFault}
use Rattle.lines.specs.declared.forms.Form.{Form}
use Rattle.lines.specs.declared.forms.Form.TheVariants.{Job, Fail, Make, Done, Wait}
use Rattle.lines.specs.declared.place.Place.{Place}
use Rattle.lines.specs.Words.{before}
use Rattle.lines.specs.Forms.{read_line}
use Rattle.lines.specs.Faults.{Fault, blamed, line_values}
use Rattle.tree.specs.declared.node.Node.{Node}
use Rattle.tree.specs.declared.tree.Tree.{Tree}
use Rattle.tree.specs.Growth.{Growth}
use Rattle.tree.specs.Questions.{nodes_of}
use Rattle.script.specs.declared.faults.ScriptFault.{ScriptFault}
use Rattle.script.specs.Reading.{past, reading}
use Rattle.script.specs.Values.{script_values}

-- a place in a text that is not too long
pub record Within (text : List ℕ) (p : Place) : Type 0 where
  pub inside : p.byte ≤ length text
  pub short : length text ≤ 16384
  pub lines : p.line ≤ p.byte + 1

-- the bytes of the line at place p
abbrev pub line_at : List ℕ → Place → List ℕ
line_at text p = take (before 10 (drop p.byte text)) (drop p.byte text)

-- whether byte 10 ends that line
abbrev pub ended_at : List ℕ → Place → Bool
ended_at text p = nat_lt (before 10 (drop p.byte text)) (length (drop p.byte text))

-- the line at place p has form f
abbrev pub Line : List ℕ → Place → Form → Type 0
Line text p f = (ended_at text p ≡ true) × (read_line (line_at text p) true ≡ Ok f)

-- the text ends at place p
abbrev pub Ends : List ℕ → Place → Type 0
Ends text p = length text ≤ p.byte

-- the line at place p has this fault
abbrev pub Faulty : List ℕ → Place → Fault → Type 0
Faulty text p v =
    (p.byte < length text) × (blamed p (read_line (line_at text p) (ended_at text p)) ≡ Err v)

-- what reading one line answers, and the place then
abbrev pub Next : List ℕ → Place → Result (Option Form) LineFault → Place → Type 0
Next text p (Ok None) q = Ends text p × (q ≡ p)
Next text p (Ok (Some f)) q = Line text p f × (q ≡ past p (line_at text p))
Next text p (Err e) q = Faulty text p (line_values e) × (q ≡ p)

-- a body ends here: with `done` or with the text
abbrev pub Stopped : List ℕ → Place → Type 0
Stopped text p = (f : Form) → Line text p f → f ≡ Done

-- a line that goes on with the body; none at its `done`
abbrev pub in_body : Option Form → Option Form
in_body None = None
in_body (Some (Job d)) = Some (Job d)
in_body (Some (Fail d)) = Some (Fail d)
in_body (Some Make) = Some Make
in_body (Some Done) = None
in_body (Some Wait) = Some Wait

-- what a look answers: a line of the body, or none where it ends
abbrev pub Looked : List ℕ → Place → Result (Option Form) LineFault → Type 0
Looked text p (Ok None) = Stopped text p
Looked text p (Ok (Some f)) = Line text p f × (f ≢ Done)
Looked text p (Err e) = Faulty text p (line_values e)

-- what the tree layer answers for the line at place p
abbrev pub Grown : Result Growth ℕ → Place → Result (Unit {0}) ScriptFault → Growth → Type 0
Grown said p (Ok _) after = said ≡ Ok after
Grown said p (Err e) after = blamed p said ≡ Err (script_values e)

-- reading went on from one place and tree to another, and comes to the same
pub record Went (text : List ℕ) (g : Growth) (p : Place) (h : Growth) (q : Place) : Type 0 where
  pub same : reading text g p ≡ reading text h q
  pub within : Within text q
  pub forward : p.byte ≤ q.byte

-- what reading a body answers: it went on to its end, with the same makes around it
abbrev pub BodyRead : List ℕ → Growth → Place → Result (Unit {0}) ScriptFault → Growth → Place → Type 0
BodyRead text g p (Ok _) h q = Went text g p h q × (h.outer ≡ g.outer) × Stopped text q
BodyRead text g p (Err e) h q = reading text g p ≡ Err (script_values e)

-- what reading the end of a nested make's body answers: the make is closed
abbrev pub Closed : List ℕ → Growth → Place → Result (Unit {0}) ScriptFault → Growth → Place → Type 0
Closed text g p (Ok _) h q = Went text g p h q × ((m : ℕ) × (g.outer ≡ m ∷ h.outer))
Closed text g p (Err e) h q = reading text g p ≡ Err (script_values e)

-- what reading to the end answers
abbrev pub Whole : List ℕ → Growth → Place → Result Tree ScriptFault → Type 0
Whole text g p (Ok t) = reading text g p ≡ Ok (nodes_of t)
Whole text g p (Err e) = reading text g p ≡ Err (script_values e)

-- what the end of the text answers
abbrev pub AtEnd : Result (List Node) ℕ → Place → Result Tree ScriptFault → Type 0
AtEnd said p (Ok t) = said ≡ Ok (nodes_of t)
AtEnd said p (Err e) = blamed p said ≡ Err (script_values e)
