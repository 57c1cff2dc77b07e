-- The number of each refusal of a pool.
use Rattle.std.specs.Prelude.{ℕ}
use Rattle.pool.specs.declared.refusals.Refusal.{Refusal}
use Rattle.pool.specs.declared.refusals.Refusal.TheVariants.{NotOut, ReadingTooHigh, TooManyTokens}

-- 11: no token of this byte is out; 12: the reading is above 100,000; 13: a pipe or semaphore of over 63 tokens.
abbrev pub number : Refusal → ℕ
number NotOut = 11
number ReadingTooHigh = 12
number TooManyTokens = 13
