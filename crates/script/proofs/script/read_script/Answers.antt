use Rattle.script.proofs.Exactly.{exact}
use Rattle.script.proofs.script.read_script.Goals as goal

pub returns-in_err-growing-clause-law : goal.returns-in_err-growing-clause-law
returns-in_err-growing-clause-law c = exact c.args.text.now
