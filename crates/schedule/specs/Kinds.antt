-- The kinds of records as the code names them. Assumes nothing.
use Rattle.std.specs.Prelude.{◌≡◌, ℕ, ◌∷◌, drop, None, Result, MatchResult}
use Rattle.schedule.specs.declared.kind.Kind.{Kind}
use Rattle.schedule.specs.declared.kind.Kind.TheVariants.{Open, StartInSlot, StartWithToken, Step, Kill, Halt, EndedWell, EndedFailed, PutBack, Finished}
use Rattle.schedule.specs.declared.kind.UnknownLetter.{UnknownLetter}
use Rattle.schedule.specs.declared.record.Record.{Record}
use Rattle.schedule.specs.Records.{kind_of, bytes}

-- the letter that stands for a kind
abbrev pub letter_of : Kind → ℕ
letter_of Open = 79
letter_of StartInSlot = 65
letter_of StartWithToken = 84
letter_of Step = 83
letter_of Kill = 75
letter_of Halt = 72
letter_of EndedWell = 69
letter_of EndedFailed = 70
letter_of PutBack = 82
letter_of Finished = 68

-- a byte is read as the kind whose letter it is, and refused where it is the letter of none
abbrev pub ReadsLetter : ℕ → Result Kind UnknownLetter → Type 0
ReadsLetter byte read = MatchResult read (λ k. byte ≡ letter_of k) (λ _. kind_of byte ≡ None)

-- a record's bytes begin with a letter
abbrev pub HasLetter : Record → ℕ → Type 0
HasLetter r letter = bytes r ≡ letter ∷ drop 1 (bytes r)
