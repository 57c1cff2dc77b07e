use Rattle.pipe.proofs.Tallies.{all_zero, sum_zero}
use Rattle.pipe.proofs.tally.Tally.new.Goals as goal

pub invariant_of-result-clause-summed : goal.invariant_of-result-clause-summed
invariant_of-result-clause-summed c = sum_zero _ (all_zero 256)

pub returns : goal.returns
returns c = record { counts = all_zero 256; sum = sum_zero _ (all_zero 256) }
