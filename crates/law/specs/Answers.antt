-- A pool of which only the answers are known: what its takes will answer, and what was asked of it so far.
use Rattle.std.specs.Prelude.{ℕ, List, [], ◌∷◌, Some, None, Option}
use Rattle.pool.specs.Chain.{Op, took_none, took, put_back}
use Rattle.rules.specs.Settling.{Store}

-- the bytes that the next takes answer, with none behind them; and the operations so far, the last one first
pub record Answers : Type 0 where
  pub coming : List ℕ
  pub asked : List Op

-- nothing was asked yet
abbrev pub unasked : List ℕ → Answers
unasked bytes = record { coming = bytes; asked = [] }

-- what a take answers and leaves
abbrev pub next_answer : List ℕ → List Op → Option ℕ × Answers
next_answer [] asked = (None, record { coming = []; asked = took_none ∷ asked })
next_answer (b ∷ bs) asked = (Some b, record { coming = bs; asked = took b ∷ asked })

-- the rules run on such a pool as on any other
abbrev pub answering : Store Answers
answering = record {
  take = λ a. next_answer a.coming a.asked;
  put = λ b a. record { coming = a.coming; asked = put_back b ∷ a.asked };
}
