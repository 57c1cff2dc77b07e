-- Bytes written into a buffer. Assumes nothing.
use Rattle.std.specs.Prelude.{◌≡◌, ℕ, ◌+◌, ◌≤◌, cond, List, ◌++◌, length, take, drop, Ok, Err, Result, nat_le}
use Rattle.schedule.specs.declared.refusal.ShortBuffer.{ShortBuffer}

-- a buffer with some bytes laid over it from a place on
abbrev pub overlaid : List ℕ → ℕ → List ℕ → List ℕ
overlaid buffer from added = take from buffer ++ (added ++ drop (from + length added) buffer)

-- some bytes were written over a buffer that has room for them, from one place to another: no other byte is altered
pub record Wrote (old : List ℕ) (from : ℕ) (added : List ℕ) (new : List ℕ) (to : ℕ) : Type 0 where
  pub end : to ≡ from + length added
  pub room : to ≤ length old
  pub after : new ≡ overlaid old from added

-- the place behind so many bytes from a place on, or a refusal where the buffer is shorter
abbrev pub place_after : ℕ → ℕ → ℕ → Result ℕ ShortBuffer
place_after long from many = cond (nat_le (from + many) long) (Ok (from + many)) (Err record {})
