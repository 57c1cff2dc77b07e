use Rattle.std.proofs.Common.{◌≡◌, refl}
use Rattle.std.proofs.Props.{props}
use Rattle.std.proofs.Math.Path.{PathP, to_path_p}
use Rattle.script.specs.declared.reader.Reader.{Reader}
use Rattle.script.specs.Steps.{Within}
use Rattle.script.proofs.reader.Reader.look.Goals as goal

-- a reader is its text and its place
same_reader : (r s : Reader) → r.text ≡ s.text → r.place ≡ s.place → r ≡ s
same_reader r s t p =
    let one : IsProp (Within s.text.now s.place) = hlevel props in
    let within : PathP (λ i. Within (t i).now (p i)) r.within s.within = to_path_p (λ i. Within (t i).now (p i)) (one _ s.within) in
    λ i. record { text = t i; place = p i; within = within i }

pub returns-in_err-form-clause-unaltered : goal.returns-in_err-form-clause-unaltered
returns-in_err-form-clause-unaltered c = same_reader _ _ refl c.drop-look.ensures.after

pub returns-clause-unaltered : goal.returns-clause-unaltered
returns-clause-unaltered c = same_reader _ _ refl c.drop-look-2.ensures.after
