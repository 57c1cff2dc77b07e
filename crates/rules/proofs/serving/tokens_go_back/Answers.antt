use Rattle.rules.proofs.Backs.{returned}
use Rattle.rules.proofs.serving.tokens_go_back.Goals as goal

pub returns : goal.returns
returns g c = record { law = returned }
