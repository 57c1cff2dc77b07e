-- What a fault names: its number, its layer, and the line and the place of that line's first byte.
use Rattle.std.specs.Prelude.{◌≡◌, ℕ, ◌<◌, ◌≤◌, true, false, cond, ◌||◌, List, length, Some, None, Ok, Err, Result, ◌==◌}
use Rattle.lines.specs.declared.faults.Layer.{Layer}
use Rattle.lines.specs.declared.faults.Layer.TheVariants.{Word, Line, Tree}
use Rattle.lines.specs.declared.faults.LineFault.{LineFault}
use Rattle.lines.specs.declared.faults.LineFault.TheVariants.{OfWord, NoForm}
use Rattle.lines.specs.declared.faults.WordFault.{WordFault}
use Rattle.lines.specs.declared.faults.WordFault.TheVariants.{StrayByte, LongName, BadSteps}
use Rattle.lines.specs.declared.place.Place.{Place}
use Rattle.decimal.specs.Counts.{count}
use Rattle.lines.specs.Words.{every, line_byte}

-- what a fault names; the place has the line's number and its first byte
pub record Fault : Type 0 where
  pub number : ℕ
  pub layer : Layer
  pub place : Place

-- the layer that finds a fault: 2, 4 and 5 are of a word, 3 is of a line, all others are of the tree
abbrev pub layer_of : ℕ → Layer
layer_of n = cond (n == 2 || (n == 4 || n == 5)) Word (cond (n == 3) Line Tree)

-- the fault with this number in the line that begins at this place
abbrev pub fault_at : ℕ → Place → Fault
fault_at n p = record { number = n; layer = layer_of n; place = p }

-- what a fault of the word layer names
abbrev pub word_values : WordFault → Fault
word_values (StrayByte p) = record { number = 2; layer = Word; place = p }
word_values (LongName p) = record { number = 4; layer = Word; place = p }
word_values (BadSteps p) = record { number = 5; layer = Word; place = p }

-- what a fault of the line layer names, its words' faults among them
abbrev pub line_values : LineFault → Fault
line_values (OfWord f) = word_values f
line_values (NoForm p) = record { number = 3; layer = Line; place = p }

-- an answer, with what its fault names
abbrev pub line_shown : {X : Type 0} → Result X LineFault → Result X Fault
line_shown (Ok x) = Ok x
line_shown (Err e) = Err (line_values e)

-- the answer where a number says the fault of the line at place p
abbrev pub blamed : {X : Type 0} → Place → Result X ℕ → Result X Fault
blamed p (Ok x) = Ok x
blamed p (Err n) = Err (fault_at n p)

-- every byte may stand in a line, or else 2
abbrev pub BytesTold : List ℕ → Place → Result (Unit {0}) WordFault → Type 0
BytesTold l p (Ok _) = every line_byte l ≡ true
BytesTold l p (Err e) = (every line_byte l ≡ false) × (e ≡ StrayByte p)

-- a name has at most 12 bytes, or else 4
abbrev pub NameTold : List ℕ → Place → Result (Unit {0}) WordFault → Type 0
NameTold n p (Ok _) = length n ≤ 12
NameTold n p (Err e) = (12 < length n) × (e ≡ LongName p)

-- the steps are a number as it is written, or else 5
abbrev pub StepsTold : List ℕ → Place → Result ℕ WordFault → Type 0
StepsTold d p (Ok n) = count d ≡ Some n
StepsTold d p (Err e) = (count d ≡ None) × (e ≡ BadSteps p)
