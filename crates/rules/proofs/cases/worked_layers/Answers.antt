use Rattle.rules.proofs.Agreeing.{layers}
use Rattle.rules.proofs.cases.worked_layers.Goals as goal

pub returns : goal.returns
returns g c = record { law = layers g.P.Lender.ways _ }
