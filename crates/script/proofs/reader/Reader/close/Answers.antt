use Rattle.std.proofs.Common.{Ok, ap, ◌∙◌, subst}
use Rattle.std.proofs.lemmas.Result.{err_from_is_err_and}
use Rattle.lines.specs.Faults.{blamed}
use Rattle.tree.specs.Grown.{growth}
use Rattle.script.specs.Steps.{Next}
use Rattle.script.proofs.Onward.{reading_faulty, reading_end}
use Rattle.script.proofs.Bodies.{end_nested, close_read}
use Rattle.script.proofs.reader.Reader.close.Goals as goal

pub returns-in_err-form-clause-result : goal.returns-in_err-form-clause-result
returns-in_err-form-clause-result c =
    let p = err_from_is_err_and c.from_residual.result c.from_residual.ensures.1 in
    let r = c.args.self.now in
    rw (p.1, p.2) (reading_faulty r.text.now r.place (growth c.args.tree.now) _ c.in_err-form.ensures.after.0)

pub returns-in_default-clause-result : goal.returns-in_default-clause-result
returns-in_default-clause-result c =
    let r = c.args.self.now in
    let none = subst (λ o. Next r.text.now r.place (Ok o) c.next_line.new.place) c.in_default.is c.in_ok-form.ensures.after in
    reading_end r.text.now r.place (growth c.args.tree.now) none.0 ∙ ap (blamed r.place) (end_nested (growth c.args.tree.now) c.requires.nested)

pub returns-clause-result : goal.returns-clause-result
returns-clause-result c =
    let r = c.args.self.now in
    close_read r.text.now (growth c.args.tree.now) r.place _ c.in-Some.form c.in_ok-form.field-0 r.within c.requires.stopped c.in-Some.is c.in_ok-form.ensures.after c.grow.result _ c.grow.ensures.after
