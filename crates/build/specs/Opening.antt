-- A build of the tree t that has not begun, with nothing written.
use Rattle.std.specs.Prelude.{◌≡◌, Bool, vec_len}
use Rattle.build.specs.Models.{model}
use Rattle.build.specs.declared.work.Work.{Work}
use Rattle.rules.specs.Builds.{begun_on}
use Rattle.rules.specs.Plans.{plan_of}
use Rattle.tree.specs.Questions.{nodes_of}
use Rattle.tree.specs.declared.tree.Tree.{Tree}

pub record Fresh (t : Tree) (keep : Bool) (e : Work) : Type 0 where
  pub build : model e ≡ begun_on (plan_of (nodes_of t)) keep
  pub none : vec_len e.losses.bytes ≡ 0
  pub written : e.written ≡ 0
