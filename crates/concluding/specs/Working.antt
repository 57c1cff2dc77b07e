-- What the open of the worked script's tree on a pipe of `x` and `y` leaves.
use Rattle.std.specs.Prelude.{◌≡◌, ℕ, List, [], ◌∷◌, take}
use Rattle.law.specs.Calls.{Status}
use Rattle.pipe.specs.Pipes.{line}
use Rattle.pipe.specs.declared.state.Pipe.{Pipe}
use Rattle.schedule.specs.Records.{encoded}
use Rattle.schedule.specs.declared.record.Record.{Record}
use Rattle.schedule.specs.declared.record.Record.TheVariants.{Open, StartInSlot, StartWithToken}

-- O 3 0 7, A 0 1, T 0 2 120, A 2 3 and T 2 4 121
abbrev pub records_xy : List Record
records_xy = Open 3 0 7 ∷ StartInSlot 0 1 ∷ StartWithToken 0 2 120 ∷ StartInSlot 2 3 ∷ StartWithToken 2 4 121 ∷ []

-- The open answered n and left the build s, the pipe q and the buffer `new`: three jobs run, no token is left in the
-- pipe, and what is written of the buffer is just those records.
pub record OpenedXy (n : ℕ) (s : Status) (q : Pipe) (new : List ℕ) : Type 0 where
  pub running : n ≡ 3
  pub empty : line q ≡ []
  pub written : s.written ≡ 18
  pub bytes : take s.written new ≡ encoded records_xy
