use Rattle.build.specs.Places.{place}
use Rattle.tree.specs.Questions.{nodes_of}
use Rattle.concluding.proofs.Answering.{opened_xy}
use Rattle.concluding.proofs.working.worked.Goals as goal

pub returns : goal.returns
returns c = record {
  after = opened_xy (nodes_of c.args.tree.now) (place c.args.build.now) (place c.open.new.self) c.args.pipe.now c.open.new.pool c.args.buffer.now c.open.new.buffer c.open.result c.open.ensures.after;
}
