use Rattle.std.proofs.Common.{rules}
use Rattle.build.proofs.Childless.{childless_job}
use Rattle.build.proofs.work.Work.running_children.Goals as goal

pub returns : goal.returns
returns c = record { result = search rules; law = childless_job c.args.self.now.tree c.args.m }
