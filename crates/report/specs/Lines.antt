-- The printed lines: one for each event, or one for a refusal.
use Rattle.std.specs.Prelude.{ℕ, List, [], ◌∷◌, ◌++◌, codes, decimal}
use Rattle.drain.specs.declared.events.Event.{Event}
use Rattle.drain.specs.declared.events.Event.TheVariants.{Obtained, Nothing, Released}
use Rattle.drain.specs.declared.events.Standing.{Standing}

-- A byte, how many of it are in and out, and how many tokens are ready; then the end of the line.
abbrev pub standing_text : Standing → List ℕ
standing_text s = decimal s.byte ++ (codes " in " ++ (decimal s.tokens_in ++ (codes " out " ++ (decimal s.tokens_out ++ (codes " ready " ++ (decimal s.ready ++ (10 ∷ [])))))))

abbrev pub event_line : Event → List ℕ
event_line (Obtained s) = codes "obtained " ++ standing_text s
event_line Nothing = codes "none" ++ (10 ∷ [])
event_line (Released s) = codes "released " ++ standing_text s

-- The lines of events, in their order.
abbrev pub event_lines : List Event → List ℕ
event_lines [] = []
event_lines (e ∷ es) = event_line e ++ event_lines es

-- The line of a refusal: its number, and the line that it is about, 0 for the first line of the input.
abbrev pub refusal_line : ℕ → ℕ → List ℕ
refusal_line number line = codes "refused " ++ (decimal number ++ (codes " " ++ (decimal line ++ (10 ∷ []))))
