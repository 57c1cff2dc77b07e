use Rattle.rules.proofs.Starts.{settles}
use Rattle.rules.proofs.serving.settling_is_so.Goals as goal

pub returns : goal.returns
returns g c = record { law = settles }
