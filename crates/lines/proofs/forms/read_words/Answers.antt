use Rattle.std.proofs.Common.{rules, tests, ◌∷◌, sym, ap, ◌∙◌}
use Rattle.std.proofs.lemmas.Fn.{always_returns_same}
use Rattle.lines.specs.Faults.{blamed}
use Rattle.lines.specs.Forms.{form_of}
use Rattle.lines.specs.Words.{parts}
use Rattle.lines.proofs.Runs.{some_parts}
use Rattle.lines.proofs.Yielding.{came_last, came_more, is_space}
use Rattle.lines.proofs.forms.read_words.Goals as goal

pub returns-in-Some-None-default-default : goal.returns-in-Some-None-default-default
returns-in-Some-None-default-default c =
    let arm = c.in-Some-None-default-default in
    let one = arm.ensures.steps.2 is_space (always_returns_same _ _ _ (λ a r q k. search (rules, tests))) in
    let head = came_last _ _ _ _ arm.ensures.steps.1 one.1 arm.ensures'.steps.0 in
    record { result = c.one_word.ensures.result ∙ ap (λ ws. blamed c.args.place (form_of ws)) (sym (ap (parts 32) (sym c.split-words.ensures.rest) ∙ head)) }

pub returns-in-Some-Some-None-default : goal.returns-in-Some-Some-None-default
returns-in-Some-Some-None-default c =
    let arm = c.in-Some-Some-None-default in
    let one = arm.ensures.steps.2 is_space (always_returns_same _ _ _ (λ a r q k. search (rules, tests))) in
    let two = arm.ensures'.steps.2 is_space one.0 in
    let head = came_more _ _ _ _ arm.ensures.steps.1 one.1 arm.ensures'.steps.0 in
    let name = came_last _ _ _ _ arm.ensures'.steps.1 two.1 arm.ensures''.steps.0 in
    record { result = c.two_words.ensures.result ∙ ap (λ ws. blamed c.args.place (form_of ws)) (sym (ap (parts 32) (sym c.split-words.ensures.rest) ∙ head ∙ ap (λ ws. arm.head.now ∷ ws) name)) }

pub returns-in-Some-Some-Some-None : goal.returns-in-Some-Some-Some-None
returns-in-Some-Some-Some-None c =
    let arm = c.in-Some-Some-Some-None in
    let one = arm.ensures.steps.2 is_space (always_returns_same _ _ _ (λ a r q k. search (rules, tests))) in
    let two = arm.ensures'.steps.2 is_space one.0 in
    let three = arm.ensures''.steps.2 is_space two.0 in
    let head = came_more _ _ _ _ arm.ensures.steps.1 one.1 arm.ensures'.steps.0 in
    let name = came_more _ _ _ _ arm.ensures'.steps.1 two.1 arm.ensures''.steps.0 in
    let digits = came_last _ _ _ _ arm.ensures''.steps.1 three.1 arm.ensures'''.steps.0 in
    record { result = c.three_words.ensures.result ∙ ap (λ ws. blamed c.args.place (form_of ws)) (sym (ap (parts 32) (sym c.split-words.ensures.rest) ∙ head ∙ ap (λ ws. arm.head.now ∷ ws) name ∙ ap (λ ws. arm.head.now ∷ arm.name.now ∷ ws) digits)) }

pub returns-in_default : goal.returns-in_default
returns-in_default c =
    let arm = c.in_default in
    let one = arm.ensures.steps.2 is_space (always_returns_same _ _ _ (λ a r q k. search (rules, tests))) in
    let two = arm.ensures'.steps.2 is_space one.0 in
    let three = arm.ensures''.steps.2 is_space two.0 in
    let head = came_more _ _ _ _ arm.ensures.steps.1 one.1 arm.ensures'.steps.0 in
    let name = came_more _ _ _ _ arm.ensures'.steps.1 two.1 arm.ensures''.steps.0 in
    let digits = came_more _ _ _ _ arm.ensures''.steps.1 three.1 arm.ensures'''.steps.0 in
    let four = some_parts 32 _ in
    record { result = ap (λ ws. blamed c.args.place (form_of ws)) (sym (ap (parts 32) (sym c.split-words.ensures.rest) ∙ head ∙ ap (λ ws. arm.field-0-0.now ∷ ws) name ∙ ap (λ ws. arm.field-0-0.now ∷ arm.field-0-1.now ∷ ws) (digits ∙ ap (λ ws. arm.field-0-2.now ∷ ws) four.2))) }
