-- A round on a pool whose tokens stand in a line. Assumes nothing.
use Rattle.std.proofs.Common.{◌≡◌, ℕ, List, [], ◌∷◌, ◌++◌, map, reverse, length, sym, ap, ◌∙◌, append_assoc, append-nil, arith}
use Rattle.std.proofs.lemmas.List.{nil_from_length}
use Rattle.pool.specs.Chain.{took_none, took, put_back, Chain}
use Rattle.pool.specs.Ways.{Ways}
use Rattle.drain.specs.Draining.{Happened, op, all_and_back, Drained}
use Rattle.drain.specs.declared.events.Event.{Event}
use Rattle.drain.specs.declared.events.Event.TheVariants.{Obtained, Nothing, Released}

-- the line is what is ready; a take gives its first token, and a put adds one at its end
module _ {P : Type 0} (w : Ways P) (line : P → List ℕ) (ready : (p : P) → (w.means p).ready ≡ length (line p)) (gives : (p : P) (b : ℕ) (q : P) → w.gave p b q → line p ≡ b ∷ line q) (brings : (p : P) (b : ℕ) (q : P) → w.back p b q → line q ≡ line p ++ b ∷ []) where
  obtained : (e : Event) (b : ℕ) (p q : P) → op e ≡ took b → Happened w e p q → line p ≡ b ∷ line q
  obtained (Obtained s) b p q is h = let same : s.byte ≡ b = cc in gives p s.byte q h.0 ∙ ap (λ x. x ∷ line q) same
  obtained Nothing b p q is h = absurd cc
  obtained (Released s) b p q is h = absurd cc

  came_to_none : (e : Event) (p q : P) → op e ≡ took_none → Happened w e p q → (length (line p) ≡ 0) × (q ≡ p)
  came_to_none (Obtained s) p q is h = absurd cc
  came_to_none Nothing p q is h = (sym (ready p) ∙ h.0.0, h.0.1)
  came_to_none (Released s) p q is h = absurd cc

  released : (e : Event) (b : ℕ) (p q : P) → op e ≡ put_back b → Happened w e p q → line q ≡ line p ++ b ∷ []
  released (Obtained s) b p q is h = absurd cc
  released Nothing b p q is h = absurd cc
  released (Released s) b p q is h = let same : s.byte ≡ b = cc in brings p s.byte q h.0 ∙ ap (λ x. line p ++ x ∷ []) same

  -- what is released comes to the end of the line
  all_released : (bs : List ℕ) (es : List Event) (p q : P) → map op es ≡ map put_back bs → Chain (Happened w) es p q → line q ≡ line p ++ bs
  all_released [] [] p q is c = ap line c ∙ sym (append-nil (line p))
  all_released [] (e ∷ es) p q is c = let long = ap length is in absurd (omega arith)
  all_released (b ∷ bs) [] p q is c = let long = ap length is in absurd (omega arith)
  all_released (b ∷ bs) (e ∷ es) p q is c =
      let first : op e ≡ put_back b = cc in
      let rest : map op es ≡ map put_back bs = cc in
      all_released bs es c.0 q rest c.2 ∙ ap (λ l. l ++ bs) (released e b p c.0 first c.1) ∙ append_assoc (line p) (b ∷ []) bs

  -- the whole line is obtained, and comes back from its last token to its first
  round_line : (cs bs : List ℕ) (es : List Event) (p q : P) → map op es ≡ map took bs ++ took_none ∷ map put_back cs → Chain (Happened w) es p q → (line p ≡ bs) × (line q ≡ cs)
  round_line cs [] [] p q is c = let long = ap length is in absurd (omega arith)
  round_line cs [] (e ∷ es) p q is c =
      let first : op e ≡ took_none = cc in
      let rest : map op es ≡ map put_back cs = cc in
      let ended = came_to_none e p c.0 first c.1 in
      let empty = nil_from_length (line p) ended.0 in
      (empty, all_released cs es c.0 q rest c.2 ∙ ap (λ l. l ++ cs) (ap line ended.1 ∙ empty))
  round_line cs (b ∷ bs) [] p q is c = let long = ap length is in absurd (omega arith)
  round_line cs (b ∷ bs) (e ∷ es) p q is c =
      let first : op e ≡ took b = cc in
      let rest : map op es ≡ map took bs ++ took_none ∷ map put_back cs = cc in
      let below = round_line cs bs es c.0 q rest c.2 in
      (obtained e b p c.0 first c.1 ∙ ap (λ l. b ∷ l) below.0, below.1)

  pub drained_line : (p q : P) (es : List Event) → Drained w p es q → (map op es ≡ all_and_back (line p)) × (line q ≡ reverse (line p))
  drained_line p q es d =
      let lines = round_line (reverse d.bytes) d.bytes es p q d.round d.chain in
      (d.round ∙ ap all_and_back (sym lines.0), lines.1 ∙ ap reverse (sym lines.0))
