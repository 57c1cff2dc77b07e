-- The number of each refusal of a first line.
use Rattle.std.specs.Prelude.{ℕ}
use Rattle.first_line.specs.declared.types.Refusal.{Refusal}
use Rattle.first_line.specs.declared.types.Refusal.TheVariants.{NoForm, BadCount, TooManyTokens}

-- 3: a line of no form; 5: a count that is not written as one; 13: over 63 tokens.
abbrev pub number : Refusal → ℕ
number NoForm = 3
number BadCount = 5
number TooManyTokens = 13
