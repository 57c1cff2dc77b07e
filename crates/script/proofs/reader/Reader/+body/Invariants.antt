use Rattle.std.proofs.Common.{◌≡◌, ◌-◌, length}
use Rattle.tree.specs.Grown.{growth}
use Rattle.script.specs.Steps.{Went}
use Rattle.script.proofs.reader.Reader.+body.Given as goal

abbrev pub decreases-body : goal.decreases-body
decreases-body l = l.levels

abbrev pub invariant-loop-form : goal.invariant-loop-form
invariant-loop-form l =
    Went l.initial.self.text.now (growth l.initial.tree) l.initial.self.place (growth l.tree) l.self.place ×
    ((growth l.tree).outer ≡ (growth l.initial.tree).outer) ×
    (l.self.text ≡ l.initial.self.text)

abbrev pub decreases-loop-form : goal.decreases-loop-form
decreases-loop-form l = length l.self.text.now - l.self.place.byte
