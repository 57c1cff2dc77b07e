use Rattle.std.proofs.Common.{rules, ◌≡◌, ◌≤◌, [], ◌∷◌, ◌++◌, vec_items, sym, ap, ◌∙◌, subst, arith}
use Rattle.std.proofs.lemmas.List.{length-reverse}
use Rattle.tree.specs.Growth.{job_node}
use Rattle.tree.specs.Grown.{growth}
use Rattle.tree.specs.Kept.{Growable}
use Rattle.tree.proofs.Facts.{few_outer, grown_job}
use Rattle.tree.proofs.Push.{total_push}
use Rattle.tree.proofs.growing.Growing.job.Goals as goal

pub overflow_cast-level : goal.overflow_cast-level
overflow_cast-level c =
    omega (arith, few_outer _ _ _ c.args.self.now.growable, c.args.self.now.outer.ok.0)

pub invariant_of-self-clause-growable : goal.invariant_of-self-clause-growable
invariant_of-self-clause-growable c =
    let g = c.args.self.now in
    let level = c.len-level.ensures ∙ g.outer.ok.0 ∙ sym (length-reverse (vec_items g.outer)) in
    let kind = c.job_kind-kind.ensures.result in
    let is : vec_items c.push_reserved.new.self ≡ vec_items g.nodes ++ job_node c.args.fails c.args.steps (growth g) ∷ [] =
    c.push_reserved.ensures.items ∙
    ap (λ x. vec_items g.nodes ++ x ∷ []) (λ i. record { kind = kind i; make = g.make; level = level i; steps = c.args.steps; wait = g.wait }) in
    let long = g.nodes.ok.0 in
    let sum = g.summed in
    let fit : (1 ≤ c.args.steps) × (c.args.steps ≤ 999) = search rules in
    subst (λ l. Growable l (vec_items g.outer) g.make) (sym is) (grown_job g c.args.fails c.args.steps fit.0 fit.1 (omega arith) (omega arith))

pub invariant_of-self-clause-summed : goal.invariant_of-self-clause-summed
invariant_of-self-clause-summed c = grind (arith, total_push, c.push_reserved.ensures.items, c.args.self.now.summed)
