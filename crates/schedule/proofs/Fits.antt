-- A fold that takes the size of one record after the other from a room. Assumes nothing.
use Rattle.std.proofs.Common.{◌≡◌, ℕ, ◌+◌, ◌-◌, ◌≤◌, Bor, leb, List, [], ◌∷◌, length, Some, None, Option, MatchOption, Iter, ControlFlow, ap, ◌∙◌, arith, is_some, length-append}
use Rattle.std.proofs.lemmas.List.{nil_from_length}
use Rattle.std.specs.ControlFlow.{continue_value}
use denote.Param.Members.{Mut, Called}
use Rattle.std.specs.Iterator.{Yields, TryFoldTurn, TryFoldsItems}
use Rattle.std.specs.List.{FoldsTo}
use Rattle.std.specs.Option.{SomeIff}
use Rattle.std.specs.Slice.Iter.{iter_rest, iter_steps}
use Rattle.schedule.specs.declared.record.Record.{Record}
use Rattle.schedule.specs.Records.{bytes, size, encoded}

-- how many bytes an iterator's records take
taken : Iter Record → ℕ
taken s = length (encoded (iter_rest s))

step_taken : (s : Iter Record) (x : Bor Record) (t : Iter Record) → iter_steps s (Some x) t → taken s ≡ size x.now + taken t
unfolding taken
step_taken s x t e = ap (λ rs. length (encoded rs)) e ∙ length-append (bytes x.now) (encoded (iter_rest t))

-- what a `?` reads of an option, and what it makes of none
abbrev branches : {E : Type 0} → Option ℕ → ControlFlow E ℕ → Type 0
branches v flow = v ≡ continue_value flow

abbrev resumes : {E : Type 0} → E → Option ℕ → Type 0
resumes _ v = v ≡ None

module _ {F : Type 0} (E : Type 0) (g : Mut F (ℕ × (Bor Record × Unit {0})) (Option ℕ)) (call : (f : F) (room : ℕ) (x : Bor Record) (v : Option ℕ) (h : F) → Called g f (room, (x, tt)) v h → SomeIff v (size x.now ≤ room) (room - size x.now)) where
  turns_taken : (xs : List (Bor Record)) (s t : Iter Record) (f f' : F) (room left : ℕ) → Yields iter_steps s xs t → FoldsTo {P = F × ℕ} (TryFoldTurn g (branches {E = E})) (f, room) xs (f', left) → left + taken s ≡ room + taken t
  unfolding taken
  turns_taken [] s t f f' room left y turns = grind arith
  turns_taken (x ∷ xs) s t f f' room left y turns =
      let on = turns_taken xs y.0 t turns.0.0 f' turns.0.1 left y.2 turns.2 in
      grind (arith, call, step_taken)

  ended : (s t u : Iter Record) (f' : F) (room left : ℕ) (r : Option ℕ) (o : Option (Bor Record)) → left + taken s ≡ room + taken t → iter_steps t o u → MatchOption o (r ≡ Some left) (λ x. (v : Option ℕ) × (h : F) × (e : E) × Called g f' (left, (x, tt)) v h × (v ≡ None) × (r ≡ None)) → is_some r ≡ leb (length (encoded (iter_rest s))) room
  unfolding taken
  ended s t u f' room left r None total last end = grind (arith, nil_from_length)
  ended s t u f' room left r (Some x) total last end = grind (arith, call, step_taken)

  pub fits : (s u : Iter Record) (f : F) (room : ℕ) (r : Option ℕ) → TryFoldsItems iter_steps g (branches {E = E}) resumes s f room r u → is_some r ≡ leb (length (encoded (iter_rest s))) room
  fits s u f room r ran =
      ended s ran.4.0 u ran.2 room ran.3 r ran.1 (turns_taken ran.0 s ran.4.0 f ran.2 room ran.3 ran.4.1 ran.5) ran.4.2 ran.6
