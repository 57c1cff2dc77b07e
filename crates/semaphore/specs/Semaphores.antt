-- What a semaphore means, and what one call does to it.
use Rattle.std.specs.Prelude.{◌≡◌, ℕ, ◌+◌}
use Rattle.pool.specs.Meaning.{only}
use Rattle.pool.specs.Ways.{Ways}
use Rattle.semaphore.specs.declared.state.Semaphore.{Semaphore}

-- The byte of every token of a semaphore, `+`.
abbrev pub plus : ℕ
plus = 43

-- A semaphore of n tokens, all of them in.
abbrev pub AllIn : ℕ → Semaphore → Type 0
AllIn n s = (s.tokens_in ≡ n) × (s.tokens_out ≡ 0)

-- Every token is the byte 43, and all that are in are ready. A reading changes nothing.
abbrev pub semaphore_ways : Ways Semaphore
semaphore_ways = record {
  means = λ s. record { ins = only plus s.tokens_in; outs = only plus s.tokens_out; ready = s.tokens_in };
  gave = λ s b t. (b ≡ plus) × (s.tokens_in ≡ t.tokens_in + 1) × (t.tokens_out ≡ s.tokens_out + 1);
  back = λ s b t. (b ≡ plus) × (t.tokens_in ≡ s.tokens_in + 1) × (s.tokens_out ≡ t.tokens_out + 1);
  heard = λ s x t. t ≡ s;
}
