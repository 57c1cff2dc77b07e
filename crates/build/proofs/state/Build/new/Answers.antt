use Rattle.std.proofs.Common.{◌≡◌, sym, ap, ◌∙◌, subst}
use Rattle.build.proofs.Keeping.{kept_by}
use Rattle.build.proofs.state.Build.new.Goals as goal
use Rattle.build.specs.Models.{status}
use Rattle.law.proofs.Planning.{trees_planned}
use Rattle.law.proofs.Sounding.{fresh_sound}
use Rattle.law.specs.Always.{unopened}
use Rattle.law.specs.Sound.{Sound}
use Rattle.rules.specs.Plans.{plan_of}
use Rattle.tree.specs.Questions.{nodes_of}

pub invariant_of-result : goal.invariant_of-result
invariant_of-result c =
    let e = c.in_ok-work.work in
    let fresh = c.in_ok-work.ensures.result.0 in
    let t = plan_of (nodes_of e.tree) in
    let same : status e ≡ unopened t = λ i. record { build = fresh.build i; written = fresh.written i } in
    kept_by e (subst Sound (sym same) (fresh_sound t (trees_planned e.tree)))

pub returns : goal.returns
returns c =
    let e = c.in_ok-work.work in
    let fresh = c.in_ok-work.ensures.result in
    record { result = (λ i. record { build = fresh.0.build i; written = fresh.0.written i }) ∙ ap (λ ns. unopened (plan_of ns)) fresh.1 }
