-- What a pipe means, and what one call does to it.
use Rattle.std.specs.Prelude.{◌≡◌, ℕ, ◌+◌, ◌<◌, List, [], ◌∷◌, ◌++◌, length, slice_index}
use Rattle.pool.specs.Meaning.{only, count}
use Rattle.pool.specs.Ways.{Ways}
use Rattle.pipe.specs.Queue.{in_line}
use Rattle.pipe.specs.declared.state.Pipe.{Pipe}

-- The tokens in the pipe, in the order in which they entered.
abbrev pub line : Pipe → List ℕ
line p = in_line p.line

-- How many tokens of the byte k are out.
abbrev pub out : Pipe → ℕ → ℕ
out p k = slice_index p.outs.counts k

-- A pipe with these tokens in, in this order, and none out.
abbrev pub AllIn : List ℕ → Pipe → Type 0
AllIn bs p = (line p ≡ bs) × ((k : ℕ) → out p k ≡ 0)

-- The first token in line is given, a token that comes back goes to its end, and a reading changes nothing.
abbrev pub pipe_ways : Ways Pipe
pipe_ways = record {
  means = λ p. record { ins = λ k. count k (line p); outs = out p; ready = length (line p) };
  gave = λ p b q. (b < 256) × (line p ≡ b ∷ line q) × ((k : ℕ) → out q k ≡ out p k + only b 1 k);
  back = λ p b q. (b < 256) × (line q ≡ line p ++ b ∷ []) × ((k : ℕ) → out q k + only b 1 k ≡ out p k);
  heard = λ p x q. q ≡ p;
}
