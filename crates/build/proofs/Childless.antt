-- A job has no children. Assumes nothing.
use Rattle.std.proofs.Common.{◌≡◌, ℕ, zero, suc, ◌+◌, ◌<◌, ◌≤◌, false, eqb, [], sym, refl, ap, ◌∙◌, arith}
use Rattle.rules.specs.Causes.{Ordered}
use Rattle.rules.specs.Lists.{numbers, those, put_if}
use Rattle.rules.specs.Plans.{Plan, is_make, plan_of}
use Rattle.rules.proofs.Tales.{trees_ordered}
use Rattle.std.proofs.lemmas.Bool.{ne_eqb, both_ways}
use Rattle.tree.specs.Questions.{nodes_of}
use Rattle.tree.specs.declared.tree.Tree.{Tree}
use Rattle.build.specs.Questions.{ChildlessJob}

none_of : (t : Plan) (m : ℕ) → Ordered t → is_make t m ≡ false → (k n : ℕ) → 0 < k → k + n ≤ t.nodes → those (λ j. eqb (t.make j) m) (numbers k n) ≡ []
none_of t m ordered job k zero pos within = refl
none_of t m ordered job k (suc n) pos within =
    let apart : t.make k ≡ m → ⊥ = λ same. both_ways (is_make t m) job (ap (is_make t) (sym same) ∙ (ordered.placed k pos (omega arith)).1) in
    ap (λ b. put_if b k (those (λ j. eqb (t.make j) m) (numbers (k + 1) n))) (ne_eqb (t.make k) m apart)
    ∙ none_of t m ordered job (k + 1) n (omega arith) (omega arith)

pub childless_job : (t : Tree) (m : ℕ) → ChildlessJob (plan_of (nodes_of t)) m
childless_job t m job =
    let ordered = trees_ordered t in
    none_of (plan_of (nodes_of t)) m ordered job 1 _ (omega arith) (omega (arith, ordered.some))
