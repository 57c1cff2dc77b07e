use Rattle.law.proofs.Following.{follow, follow_open, law_now}
use Rattle.law.proofs.Planning.{trees_planned}
use Rattle.law.proofs.Reading.{reads_back}
use Rattle.law.proofs.laws.every_trace.Goals as goal
use Rattle.law.specs.Lending.{Lends}
use Rattle.rules.specs.Plans.{plan_of}
use Rattle.tree.specs.Questions.{nodes_of}

pub returns : goal.returns
returns g c =
    let w = g.P.Lender.ways in
    let lends : Lends w = record { bounded = g.met.P.Lender.bounded; taken = g.met.P.Lender.taken; returned = g.met.P.Lender.returned; unmoved = g.met.P.Lender.unmoved } in
    record {
      law = λ tree keep before after p q old new n opened.
          let t = plan_of (nodes_of tree) in (
            λ now trace. law_now w lends t (w.means p).ins (follow w lends t (w.means p).ins trace (follow_open w lends t (trees_planned tree) keep before after p q old new n opened)),
            reads_back w t keep before after p q old new n opened,
          );
    }
