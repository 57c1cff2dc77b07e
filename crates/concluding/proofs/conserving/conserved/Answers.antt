use Rattle.build.specs.Places.{place}
use Rattle.concluding.proofs.Joining.{conserved_made}
use Rattle.concluding.proofs.conserving.conserved.Goals as goal

pub returns : goal.returns
returns g c = record {
  after = conserved_made g.P.Lender.ways (place c.open-opened.new.self) c.open-opened.new.pool c.open-opened.new.buffer c.args.tree.now c.args.keep c.args.node (place c.args.build.now) c.args.pool.now c.args.buffer.now
      c.open-opened.result c.open-opened.ensures.after c.open-opened.ensures.law c.open-opened.ensures.records
      c.obtain-grant.result c.obtain-grant.new.lender c.obtain-grant.ensures.after
      c.step.result (place c.step.new.self) c.step.new.pool c.step.new.buffer c.step.ensures.after
      c.kill.result (place c.kill.new.self) c.kill.new.pool c.kill.new.buffer c.kill.ensures.after
      c.poll.result (place c.poll.new.self) c.poll.new.pool c.poll.new.buffer c.poll.ensures.after
      c.bring_back.new.pool c.bring_back.ensures.after
      c.halt.result (place c.halt.new.self) c.halt.new.pool c.halt.new.buffer c.halt.ensures.after;
}
