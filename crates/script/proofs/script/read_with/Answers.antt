use Rattle.std.proofs.Common.{rules}
use Rattle.tree.specs.Questions.{nodes_of}
use Rattle.script.proofs.Exactly.{exact}
use Rattle.script.proofs.script.read_with.Goals as goal

pub returns-then-text-gt-MAX_BYTES-clause-law : goal.returns-then-text-gt-MAX_BYTES-clause-law
returns-then-text-gt-MAX_BYTES-clause-law c = exact c.args.text.now

pub returns-in_err-whole-clause-law : goal.returns-in_err-whole-clause-law
returns-in_err-whole-clause-law c = exact c.args.text.now

pub returns-clause-result : goal.returns-clause-result
returns-clause-result c =
    let text = c.args.text.now in
    (exact text).is_script (nodes_of c.in_ok-whole.whole) (search rules)

pub returns-clause-law : goal.returns-clause-law
returns-clause-law c = exact c.args.text.now
