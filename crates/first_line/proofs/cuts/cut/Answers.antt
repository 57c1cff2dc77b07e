use Rattle.std.proofs.Common.{rules, tests, ◌≡◌, sym, ap, ◌∙◌, arith}
use Rattle.std.proofs.lemmas.Iterator.{YieldsList-from_slice, IsFirst-from_position}
use Rattle.first_line.specs.Shown.{parts}
use Rattle.first_line.proofs.Cutting.{cut_found, cut_none}
use Rattle.first_line.proofs.cuts.cut.Goals as goal

pub returns-in_err-at : goal.returns-in_err-at
returns-in_err-at c =
    let m = c.args.mark in
    let nowhere = IsFirst-from_position _ _ _ (λ x. x ≡ m) (λ x. x ≡ m → ⊥) c.in_err-at.ensures.ran (YieldsList-from_slice c.args.text.now cc) (λ x q k. search (rules, tests)) (λ x q k. search (rules, tests)) in
    record { result = ap parts c.from_residual.ensures ∙ sym (cut_none m c.args.text.now (λ k h. nowhere k 0 (omega arith) h)) }

pub returns : goal.returns
returns c =
    let m = c.args.mark in
    let found = IsFirst-from_position _ _ _ (λ x. x ≡ m) (λ x. x ≡ m → ⊥) c.in_ok-at.ensures.ran (YieldsList-from_slice c.args.text.now cc) (λ x q k. search (rules, tests)) (λ x q k. search (rules, tests)) in
    record { result = cut_found m c.args.text.now c.in_ok-at.at found.0 (λ k h. found.2 k 0 (omega arith) h) (found.1 0) }
