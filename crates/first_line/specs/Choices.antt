-- The pool that a first line asks for.
use Rattle.std.specs.Prelude.{ℕ, ◌≤◌, List, length}
use Rattle.first_line.specs.declared.types.PoolChoice.{PoolChoice}
use Rattle.first_line.specs.declared.types.PoolChoice.TheVariants.{Pipe, Semaphore}
use Rattle.pool.specs.Meaning.{most_tokens}

-- The pool that is asked for: a pipe with these tokens, or a semaphore with so many.
pub data Choice : Type 0 where
  a_pipe : List ℕ → Choice
  a_semaphore : ℕ → Choice

-- How many tokens that pool has.
abbrev pub tokens_of : Choice → ℕ
tokens_of (a_pipe bs) = length bs
tokens_of (a_semaphore n) = n

-- A pool may have so many tokens.
abbrev pub Few : Choice → Type 0
Few c = tokens_of c ≤ most_tokens

-- What the code's choice stands for: a pipe's tokens by their bytes.
abbrev pub told_choice : PoolChoice → Choice
told_choice (Pipe bytes) = a_pipe bytes.now
told_choice (Semaphore n) = a_semaphore n
