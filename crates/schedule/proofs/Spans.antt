-- What is ahead of a reader falls with each record. Assumes nothing.
use Rattle.std.proofs.Common.{◌≡◌, ℕ, ◌<◌, List, ◌++◌, length, ap, ◌∙◌, arith, length-append}
use Rattle.schedule.specs.declared.view.RecordView.{RecordView}
use Rattle.schedule.specs.Views.{span}

span_some : (v : RecordView) → 0 < length (span v)
span_some v = grind arith

-- a loop that reads on has the length of what is ahead as its measure
pub ahead_falls : (v : RecordView) (before after : List ℕ) → before ≡ span v ++ after → length after < length before
ahead_falls v before after e = omega (arith, span_some v, ap length e ∙ length-append (span v) after)
