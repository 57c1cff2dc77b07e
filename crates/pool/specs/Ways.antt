-- The ways of a pool: what its values mean, and what one take, one put and one reading did to them.
use Rattle.std.specs.Prelude.{◌≡◌, ℕ, ◌<◌, ◌≤◌, Some, None, Ok, Err, Option, Result}
use Rattle.pool.specs.Meaning.{Meaning, most_tokens, highest_reading}
use Rattle.pool.specs.declared.refusals.Refusal.{Refusal}
use Rattle.pool.specs.declared.refusals.Refusal.TheVariants.{NotOut, ReadingTooHigh, TooManyTokens}

-- Each kind of pool gives its own, exact to the last token; the trait's laws tie them to the meaning.
pub record Ways (P : Type 0) : Type 1 where
  -- the 513 numbers of a pool
  pub means : P → Meaning
  -- gave p b q: a take on p answered the byte b and left q
  pub gave : P → ℕ → P → Type 0
  -- back p b q: an accepted put of the byte b on p left q
  pub back : P → ℕ → P → Type 0
  -- heard p x q: an accepted reading x on p left q
  pub heard : P → ℕ → P → Type 0

-- A take answered none: nothing was ready, and the pool is as it was. Or it gave a byte.
abbrev pub Take : {P : Type 0} → Ways P → P → Option ℕ → P → Type 0
Take w p None q = ((w.means p).ready ≡ 0) × (q ≡ p)
Take w p (Some b) q = w.gave p b q

-- A put was accepted, or refused since no token of that byte was out; the pool is then as it was.
abbrev pub Put : {P : Type 0} → Ways P → P → ℕ → Result Unit Refusal → P → Type 0
Put w p b (Ok _) q = w.back p b q
Put w p b (Err e) q = (e ≡ NotOut) × ((w.means p).outs b ≡ 0) × (q ≡ p)

-- A reading was heard, or refused since it was above the highest; the pool is then as it was.
abbrev pub Load : {P : Type 0} → Ways P → P → ℕ → Result Unit Refusal → P → Type 0
Load w p x (Ok _) q = (x ≤ highest_reading) × w.heard p x q
Load w p x (Err e) q = (e ≡ ReadingTooHigh) × (highest_reading < x) × (q ≡ p)

-- A pool was made anew, of n tokens, in the place of p: q is as a fresh one is; or n was too many and q is p.
abbrev pub Fill : {P : Type 0} → (P → Type 0) → ℕ → P → Result Unit Refusal → P → Type 0
Fill fresh n p (Ok _) q = (n ≤ most_tokens) × fresh q
Fill fresh n p (Err e) q = (e ≡ TooManyTokens) × (most_tokens < n) × (q ≡ p)
