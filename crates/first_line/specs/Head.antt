-- What a first line says: `pipe BYTES` or `sem COUNT`, with ` keep` behind it if wanted.
use Rattle.std.specs.Prelude.{ℕ, Bool, true, false, cond, List, length, Some, None, Ok, Err, codes, Option, Result, nat_le}
use Rattle.std.specs.Borrow.{Bor}
use Rattle.decimal.specs.Counts.{count}
use Rattle.first_line.specs.Cuts.{cut_at, is_word}
pub use Rattle.first_line.specs.Choices.{Choice, a_pipe, a_semaphore, Few, told_choice}
use Rattle.first_line.specs.declared.types.FirstLine.{FirstLine}
use Rattle.first_line.specs.declared.types.PoolChoice.{PoolChoice}
use Rattle.first_line.specs.declared.types.Refusal.{Refusal}
use Rattle.first_line.specs.declared.types.Refusal.TheVariants.{NoForm, BadCount, TooManyTokens}
use Rattle.pool.specs.Meaning.{most_tokens}
use Rattle.std.specs.Str.{bytes_eq}

-- The pool, whether to keep going after a failure, and what stands behind the line.
pub record Head : Type 0 where
  pub pool : Choice
  pub keep : Bool
  pub rest : List ℕ

-- A pipe of the word's bytes: at most 63.
abbrev pub pipe_of : List ℕ → Result Choice Refusal
pipe_of v = cond (nat_le (length v) most_tokens) (Ok (a_pipe v)) (Err TooManyTokens)

-- A semaphore of a count: at most 63.
abbrev pub semaphore_of : Option ℕ → Result Choice Refusal
semaphore_of None = Err BadCount
semaphore_of (Some n) = cond (nat_le n most_tokens) (Ok (a_semaphore n)) (Err TooManyTokens)

-- The line's first word says which pool its second word describes.
abbrev pub choice : List ℕ → List ℕ → Result Choice Refusal
choice p v = cond (is_word v) (cond (bytes_eq p (codes "pipe")) (pipe_of v) (cond (bytes_eq p (codes "sem")) (semaphore_of (count v)) (Err NoForm))) (Err NoForm)

-- The line's second word, and whether `keep` stands behind it; nothing else may.
abbrev pub with_keep : List ℕ → Option (List ℕ × List ℕ) → Result (List ℕ × Bool) Refusal
with_keep after None = Ok (after, false)
with_keep after (Some w) = cond (bytes_eq w.1 (codes "keep")) (Ok (w.0, true)) (Err NoForm)

abbrev pub keep_of : List ℕ → Result (List ℕ × Bool) Refusal
keep_of after = with_keep after (cut_at 32 after)

abbrev pub with_choice : Result Choice Refusal → Bool → List ℕ → Result Head Refusal
with_choice (Ok c) keep rest = Ok (record { pool = c; keep = keep; rest = rest })
with_choice (Err e) keep rest = Err e

abbrev pub with_second : List ℕ → Result (List ℕ × Bool) Refusal → List ℕ → Result Head Refusal
with_second p (Ok w) rest = with_choice (choice p w.0) w.1 rest
with_second p (Err e) rest = Err e

abbrev pub with_first : Option (List ℕ × List ℕ) → List ℕ → Result Head Refusal
with_first None rest = Err NoForm
with_first (Some w) rest = with_second w.0 (keep_of w.1) rest

abbrev pub with_line : Option (List ℕ × List ℕ) → Result Head Refusal
with_line None = Err NoForm
with_line (Some l) = with_first (cut_at 32 l.0) l.1

-- What the input's first line says: the line ends with byte 10, and its words are parted by one space.
abbrev pub head : List ℕ → Result Head Refusal
head input = with_line (cut_at 10 input)

-- What the code's answers stand for: a part of the text by its bytes.
abbrev pub told_pool : Result PoolChoice Refusal → Result Choice Refusal
told_pool (Ok c) = Ok (told_choice c)
told_pool (Err e) = Err e

abbrev pub told_second : Result (Bor (List ℕ) × Bool) Refusal → Result (List ℕ × Bool) Refusal
told_second (Ok w) = Ok (w.0.now, w.1)
told_second (Err e) = Err e

abbrev pub told : Result FirstLine Refusal → Result Head Refusal
told (Ok f) = Ok (record { pool = told_choice f.pool; keep = f.keep; rest = f.rest.now })
told (Err e) = Err e
