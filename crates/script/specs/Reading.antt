-- What the lines of a text come to, one after the other: a tree's nodes, or the first fault.
use Rattle.std.specs.Prelude.{ℕ, ◌+◌, true, false, cond, List, [], ◌∷◌, length, drop, Ok, Err, Result, nat_le}
use Rattle.lines.specs.declared.forms.Form.{Form}
use Rattle.lines.specs.declared.forms.Form.TheVariants.{Job, Fail, Make, Done, Wait}
use Rattle.lines.specs.declared.place.Place.{Place}
use Rattle.lines.specs.Words.{parts}
use Rattle.lines.specs.Forms.{read_line}
use Rattle.lines.specs.Faults.{Fault, fault_at, blamed}
use Rattle.tree.specs.declared.node.Node.{Node}
use Rattle.tree.specs.Growth.{Growth, start, job, make, done, wait, finish}
use Rattle.script.specs.Values.{nowhere}

-- a fault stays, and what is right goes on
abbrev pub then : {X Y E : Type 0} → Result X E → (X → Result Y E) → Result Y E
then (Ok x) f = f x
then (Err e) f = Err e

-- what a form does to the nodes read so far
abbrev pub grow : Form → Growth → Result Growth ℕ
grow (Job d) g = job false d g
grow (Fail d) g = job true d g
grow Make g = make g
grow Done g = done g
grow Wait g = Ok (wait g)

-- the place behind a line and its byte 10
abbrev pub past : Place → List ℕ → Place
past p l = record { line = p.line + 1; byte = p.byte + length l + 1 }

-- what stands behind the last byte 10: nothing, or a line that is not ended
abbrev pub at_end : List ℕ → Growth → Result (List Node) ℕ
at_end [] g = finish g
at_end (b ∷ bs) g = then (read_line (b ∷ bs) false) (λ _. finish g)

-- the parts between the bytes 10, from the line at place p on
unfoldable pub read_parts : Growth → Place → List (List ℕ) → Result (List Node) Fault
read_parts g p [] = blamed p (finish g)
read_parts g p (l ∷ []) = blamed p (at_end l g)
read_parts g p (l ∷ m ∷ ls) =
    then (blamed p (then (read_line l true) (λ f. grow f g))) (λ h. read_parts h (past p l) (m ∷ ls))

-- the rest of a text, from the line at place p on
abbrev pub reading : List ℕ → Growth → Place → Result (List Node) Fault
reading text g p = read_parts g p (parts 10 (drop p.byte text))

-- the first line
abbrev pub first_place : Place
first_place = record { line = 1; byte = 0 }

-- a whole text: at most 16,384 bytes (1), then line by line
abbrev pub read_text : List ℕ → Result (List Node) Fault
read_text text = cond (nat_le (length text) 16384) (reading text start first_place) (Err (fault_at 1 nowhere))
