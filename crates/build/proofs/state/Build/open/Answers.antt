use Rattle.std.proofs.Common.{ℕ, Bool, List, IfOk, Ok, Err, Result}
use Rattle.build.proofs.Keeping.{kept_by, sound_by}
use Rattle.build.proofs.state.Build.open.Goals as goal
use Rattle.build.specs.Models.{status}
use Rattle.law.proofs.Following.{follow, follow_open, law_now}
use Rattle.law.proofs.Planning.{trees_planned}
use Rattle.law.proofs.Reading.{reads_back}
use Rattle.law.proofs.Sounding.{sound_open}
use Rattle.law.specs.Calls.{Status, Opened}
use Rattle.law.specs.Law.{LawFrom, ReadsBackFrom}
use Rattle.law.specs.Lending.{Lends}
use Rattle.pool.specs.Ways.{Ways}
use Rattle.rules.specs.Plans.{plan_of}
use Rattle.rules.specs.declared.refusal.Refusal.{Refusal}
use Rattle.tree.specs.Questions.{nodes_of}
use Rattle.tree.specs.declared.tree.Tree.{Tree}

-- the law, where the open was accepted
law_made : {P : Type 0} (w : Ways P) → Lends w → (tree : Tree) (keep : Bool) (before after : Status) (p q : P) (old new : List ℕ) (r : Result ℕ Refusal) → Opened w (plan_of (nodes_of tree)) keep before p old r after q new → IfOk r (λ _. LawFrom w tree p after q new)
law_made w lends tree keep before after p q old new (Ok n) opened =
    let t = plan_of (nodes_of tree) in
    λ now trace. law_now w lends t (w.means p).ins (follow w lends t (w.means p).ins trace (follow_open w lends t (trees_planned tree) keep before after p q old new n opened))
law_made w lends tree keep before after p q old new (Err e) opened = tt

-- so too what reads back
reads_made : {P : Type 0} (w : Ways P) (tree : Tree) (keep : Bool) (before after : Status) (p q : P) (old new : List ℕ) (r : Result ℕ Refusal) → Opened w (plan_of (nodes_of tree)) keep before p old r after q new → IfOk r (λ _. ReadsBackFrom w after q new)
reads_made w tree keep before after p q old new (Ok n) opened = reads_back w (plan_of (nodes_of tree)) keep before after p q old new n opened
reads_made w tree keep before after p q old new (Err e) opened = tt

pub invariant_of-self : goal.invariant_of-self
invariant_of-self g c =
    let b = c.args.self.now in
    let tree = c.args.tree.now in
    let done = c.open in
    kept_by done.new.self
    (sound_open g.P.Lender.ways (plan_of (nodes_of tree)) (trees_planned tree) c.args.keep (status b.work) (status done.new.self) c.args.pool.now done.new.pool c.args.buffer.now done.new.buffer done.result (sound_by b) done.ensures.after)

pub returns : goal.returns
returns g c =
    let w = g.P.Lender.ways in
    let b = c.args.self.now in
    let tree = c.args.tree.now in
    let done = c.open in
    let lends : Lends w = record { bounded = g.met.P.Lender.bounded; taken = g.met.P.Lender.taken; returned = g.met.P.Lender.returned; unmoved = g.met.P.Lender.unmoved } in
    record {
      after = done.ensures.after;
      unaltered = done.ensures.unaltered;
      law = law_made w lends tree c.args.keep (status b.work) (status done.new.self) c.args.pool.now done.new.pool c.args.buffer.now done.new.buffer done.result done.ensures.after;
      records = reads_made w tree c.args.keep (status b.work) (status done.new.self) c.args.pool.now done.new.pool c.args.buffer.now done.new.buffer done.result done.ensures.after;
    }
