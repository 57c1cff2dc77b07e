-- A pool whose values can be written down: the tokens in, in order, and those out.
use Rattle.std.specs.Prelude.{◌≡◌, ℕ, ◌+◌, ◌<◌, ◌≤◌, cond, List, [], ◌∷◌, ◌++◌, length, ◌==◌}
use Rattle.pool.specs.Meaning.{count, most_tokens}
use Rattle.pool.specs.Ways.{Ways}

-- each is a byte
abbrev pub AllBytes : List ℕ → Type 0
AllBytes [] = Unit {0}
AllBytes (b ∷ bs) = (b < 256) × AllBytes bs

-- the tokens in, first to last, and those out; together at most 63, and every one a byte
pub record Queue : Type 0 where
  pub line : List ℕ
  pub lent : List ℕ
  pub few : length line + length lent ≤ most_tokens
  pub line_bytes : AllBytes line
  pub lent_bytes : AllBytes lent

-- the list without the first b in it
abbrev pub without : ℕ → List ℕ → List ℕ
without b [] = []
without b (x ∷ xs) = cond (x == b) xs (x ∷ without b xs)

-- The first token in line is given, one that is out and comes back goes to the end, and a reading changes nothing.
abbrev pub queue_ways : Ways Queue
queue_ways = record {
  means = λ q. record { ins = λ k. count k q.line; outs = λ k. count k q.lent; ready = length q.line };
  gave = λ p b q. (p.line ≡ b ∷ q.line) × (q.lent ≡ b ∷ p.lent);
  back = λ p b q. (0 < count b p.lent) × (q.line ≡ p.line ++ b ∷ []) × (q.lent ≡ without b p.lent);
  heard = λ p x q. q ≡ p;
}
