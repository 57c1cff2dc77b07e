use Rattle.rules.proofs.Searches.{served}
use Rattle.rules.proofs.serving.makes_are_served.Goals as goal

pub returns : goal.returns
returns c = record { law = served }
