-- What every pool owes by its ways alone: the four laws of a lender.
use Rattle.std.specs.Prelude.{ℕ}
use Rattle.pool.specs.Meaning.{Bounded, Taken, Returned, Heard}
use Rattle.pool.specs.Ways.{Ways}

-- at every value, and over every take, put and reading, the meaning is as the pool rules say
pub record Lends {P : Type 0} (w : Ways P) : Type 0 where
  pub bounded : (p : P) → Bounded (w.means p)
  pub taken : (p : P) (b : ℕ) (q : P) → w.gave p b q → Taken (w.means p) b (w.means q)
  pub returned : (p : P) (b : ℕ) (q : P) → w.back p b q → Returned (w.means p) b (w.means q)
  pub unmoved : (p : P) (x : ℕ) (q : P) → w.heard p x q → Heard (w.means p) (w.means q)
