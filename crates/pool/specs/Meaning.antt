-- What a pool means: a number in and a number out for each byte value, and a number ready.
use Rattle.std.specs.Prelude.{◌≡◌, ℕ, zero, suc, ◌+◌, ◌<◌, ◌≤◌, cond, List, [], ◌∷◌, ◌==◌}

-- The 513 numbers of a pool: tokens in, tokens out (handed out and not yet back), and how many are ready.
pub record Meaning : Type 0 where
  pub ins : ℕ → ℕ
  pub outs : ℕ → ℕ
  pub ready : ℕ

-- A pool has at most so many tokens, in and out together.
abbrev pub most_tokens : ℕ
most_tokens = 63

-- The highest load reading that a pool hears, in hundredths.
abbrev pub highest_reading : ℕ
highest_reading = 100000

-- n at the byte b, and 0 at every other.
abbrev pub only : ℕ → ℕ → ℕ → ℕ
only b n k = cond (b == k) n 0

-- How often the byte k stands in a list.
unfoldable pub count : ℕ → List ℕ → ℕ
count k [] = 0
count k (b ∷ bs) = count k bs + only b 1 k

-- The sum of f over the numbers below n.
unfoldable pub sum_below : (ℕ → ℕ) → ℕ → ℕ
sum_below f zero = 0
sum_below f (suc n) = sum_below f n + f n

-- The sum over all 256 byte values.
unfoldable pub total : (ℕ → ℕ) → ℕ
total f = sum_below f 256

-- In and out together are at most 63 tokens, and no more is ready than is in.
pub record Bounded (m : Meaning) : Type 0 where
  pub few : total m.ins + total m.outs ≤ most_tokens
  pub backed : m.ready ≤ total m.ins

-- One token of byte b was handed out: its in and ready fell by one, its out rose by one, nothing else moved.
pub record Taken (m : Meaning) (b : ℕ) (m' : Meaning) : Type 0 where
  pub byte : b < 256
  pub ins : (k : ℕ) → m'.ins k + only b 1 k ≡ m.ins k
  pub outs : (k : ℕ) → m'.outs k ≡ m.outs k + only b 1 k
  pub ready : m'.ready + 1 ≡ m.ready

-- One token of byte b came back: its in rose by one, its out fell by one; ready is the pool's choice.
pub record Returned (m : Meaning) (b : ℕ) (m' : Meaning) : Type 0 where
  pub byte : b < 256
  pub ins : (k : ℕ) → m'.ins k ≡ m.ins k + only b 1 k
  pub outs : (k : ℕ) → m'.outs k + only b 1 k ≡ m.outs k

-- A load reading was heard: no token moved; ready is the pool's choice.
pub record Heard (m m' : Meaning) : Type 0 where
  pub ins : (k : ℕ) → m'.ins k ≡ m.ins k
  pub outs : (k : ℕ) → m'.outs k ≡ m.outs k
