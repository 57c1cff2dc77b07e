-- Every tree that can be held is as the rules rely on. Assumes nothing.
use Rattle.std.proofs.Common.{◌≡◌, ◌+◌, ◌<◌, true, false, cond, ◌&&◌, eqb, leb, List, [], ◌∷◌, length, sym, ap, ◌∙◌, add-one, arith}
use Rattle.law.proofs.Sums.{sum_first, sum_same, sum_none}
use Rattle.law.specs.Sound.{Planned}
use Rattle.pool.specs.Meaning.{sum_below}
use Rattle.rules.proofs.Tales.{trees_ordered}
use Rattle.rules.specs.Plans.{plan_of}
use Rattle.std.proofs.lemmas.Bool.{and_parts, leb-true}
use Rattle.tree.specs.Kept.{steps_fit}
use Rattle.tree.specs.Nodes.{at, makes, total}
use Rattle.tree.specs.Questions.{nodes_of}
use Rattle.tree.specs.declared.node.Node.{Node}
use Rattle.tree.specs.declared.tree.Tree.{Tree}

all_summed : (ns : List Node) → total ns ≡ sum_below (λ n. (at ns n).steps) (length ns)
unfolding total
all_summed [] = sym (sum_none (λ n. (at [] n).steps) 0 (λ k b. absurd (omega arith)))
all_summed (x ∷ ns) =
    let rest = all_summed ns in
    let first = sum_first (λ n. (at (x ∷ ns) n).steps) (length ns) in
    let same = sum_same (λ n. (at ns n).steps) (λ n. (at (x ∷ ns) (n + 1)).steps) (length ns) (λ k b. ap (λ j. (at (x ∷ ns) j).steps) (add-one k)) in
    omega (arith, rest, first, same)

job_sized : (x : Node) → steps_fit x ≡ true → makes x.kind ≡ false → 0 < x.steps
job_sized x fits job =
    let so : (leb 1 x.steps && leb x.steps 999) ≡ true = ap (λ t. cond t (eqb x.steps 0) (leb 1 x.steps && leb x.steps 999)) (sym job) ∙ fits in
    omega (arith, leb-true 1 x.steps (and_parts (leb 1 x.steps) (leb x.steps 999) so).0)

pub trees_planned : (t : Tree) → Planned (plan_of (nodes_of t))
trees_planned t = record {
  ordered = trees_ordered t;
  sized = λ n within job. job_sized (at (nodes_of t) n) (t.sized n within) job;
  fed = λ m within make. t.fed m (within, make);
  summed = all_summed (nodes_of t);
}
