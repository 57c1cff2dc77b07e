-- What code that knows a pool only by its trait did to it: a chain of the pool's own operations.
use Rattle.std.specs.Prelude.{◌≡◌, ℕ, List, [], ◌∷◌}
use Rattle.pool.specs.Ways.{Ways}

-- One operation: a take that answered none or a byte, an accepted put of a byte, an accepted reading.
pub data Op : Type 0 where
  took_none : Op
  took : ℕ → Op
  put_back : ℕ → Op
  loaded : ℕ → Op

-- The operation led from p to q.
abbrev pub Did : {P : Type 0} → Ways P → Op → P → P → Type 0
Did w took_none p q = ((w.means p).ready ≡ 0) × (q ≡ p)
Did w (took b) p q = w.gave p b q
Did w (put_back b) p q = w.back p b q
Did w (loaded x) p q = w.heard p x q

-- These steps, one after the other, led from p to q; `did s p q` says that the step s leads from p to q.
abbrev pub Chain : {S P : Type 0} → (S → P → P → Type 0) → List S → P → P → Type 0
Chain did [] p q = q ≡ p
Chain {S} {P} did (s ∷ ss) p q = (m : P) × did s p m × Chain did ss m q
