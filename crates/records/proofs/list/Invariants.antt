use Rattle.std.proofs.Common.{◌≡◌, ◌++◌, length, vec_items}
use Rattle.records.specs.Listing.{listed}
use Rattle.schedule.specs.Reading.{division}
use Rattle.schedule.specs.Views.{ahead, left_of}
use Rattle.records.proofs.list.Given as goal

abbrev pub invariant-loop-placed : goal.invariant-loop-placed
invariant-loop-placed l = vec_items l.out ++ listed (left_of l.reader) ≡ listed (division l.schedule 0)

abbrev pub decreases-loop-placed : goal.decreases-loop-placed
decreases-loop-placed l = length (ahead l.reader)
