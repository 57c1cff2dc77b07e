-- The form of a line: how it begins, and how many words it has.
use Rattle.std.specs.Prelude.{ℕ, Bool, cond, not, ◌||◌, List, [], ◌∷◌, length, drop, Some, None, Ok, Err, codes, Option, Result, ◌==◌, nat_le}
use Rattle.std.specs.Str.{bytes_eq}
use Rattle.lines.specs.declared.forms.Form.{Form}
use Rattle.lines.specs.declared.forms.Form.TheVariants.{Job, Fail, Make, Done, Wait}
use Rattle.decimal.specs.Counts.{count}
use Rattle.lines.specs.Words.{every, line_byte, indent, parts}

-- whether a word is empty
abbrev pub empty : List ℕ → Bool
empty w = length w == 0

-- a number as it is written, or else 5
abbrev pub numbered : Option ℕ → Result ℕ ℕ
numbered (Some n) = Ok n
numbered None = Err 5

-- the steps behind a name: no word is empty (3), the name has at most 12 bytes (4), and the steps are a number (5)
abbrev pub steps_of : List ℕ → List ℕ → Result ℕ ℕ
steps_of name digits =
    cond (empty name || empty digits) (Err 3) (cond (nat_le (length name) 12) (numbered (count digits)) (Err 4))

-- a form with its steps
abbrev pub with_steps : (ℕ → Form) → Result ℕ ℕ → Result Form ℕ
with_steps f (Ok n) = Ok (f n)
with_steps f (Err e) = Err e

-- the form of these words, or else 3, 4 or 5
abbrev pub form_of : List (List ℕ) → Result Form ℕ
form_of [] = Err 3
form_of (w ∷ []) = cond (bytes_eq w (codes "done")) (Ok Done) (cond (bytes_eq w (codes "wait")) (Ok Wait) (Err 3))
form_of (w ∷ name ∷ []) =
    cond (empty name || not (bytes_eq w (codes "make"))) (Err 3) (cond (nat_le (length name) 12) (Ok Make) (Err 4))
form_of (w ∷ name ∷ digits ∷ []) =
    cond (bytes_eq w (codes "job")) (with_steps Job (steps_of name digits))
    (cond (bytes_eq w (codes "fail")) (with_steps Fail (steps_of name digits)) (Err 3))
form_of (w ∷ name ∷ digits ∷ more ∷ ws) = Err 3

-- the form of a line that byte 10 ends or not: its bytes are allowed (2), byte 10 ends it (3), leading spaces are skipped
abbrev pub read_line : List ℕ → Bool → Result Form ℕ
read_line l ended =
    cond (every line_byte l) (cond ended (form_of (parts 32 (drop (indent l) l))) (Err 3)) (Err 2)
