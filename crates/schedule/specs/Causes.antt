-- Why a node ended as failed, by number. Assumes nothing.
use Rattle.std.specs.Prelude.{ℕ}
use Rattle.schedule.specs.declared.cause.Cause.{Cause}
use Rattle.schedule.specs.declared.cause.Cause.TheVariants.{Script, Kill, FailedChild, Halt}

-- the number that stands in a record for a cause
abbrev pub cause_number : Cause → ℕ
cause_number Script = 1
cause_number Kill = 2
cause_number FailedChild = 3
cause_number Halt = 4
