use Rattle.std.proofs.Common.{length, Some, None, Ok, ap, ◌∙◌, subst}
use Rattle.std.proofs.lemmas.Result.{err_from_is_err_and}
use Rattle.lines.specs.Faults.{line_values}
use Rattle.tree.specs.Growth.{finish}
use Rattle.tree.specs.Grown.{growth}
use Rattle.script.specs.Steps.{Next, Faulty, AtEnd}
use Rattle.script.specs.Values.{script_values}
use Rattle.script.proofs.Onward.{reading_faulty}
use Rattle.script.proofs.Bodies.{line_fault, whole_end, top_stays}
use Rattle.script.proofs.reader.Reader.whole.Goals as goal
use Rattle.script.proofs.reader.Reader.whole.Goals.{in-Some+in_ok-grow, in_default}

pub returns-in_err-form : goal.returns-in_err-form
returns-in_err-form c =
    let e = err_from_is_err_and c.from_residual-in_err-form.result c.from_residual-in_err-form.ensures.1 in
    let text = c.args.self.text.now in
    let same = ap (λ r. r.now) c.in_ok-body.ensures.unaltered in
    let v = line_values c.in_err-form.field-0.0 in
    let p = c.body.new.self.place in
    record { result = rw (e.1, e.2) (c.in_ok-body.ensures.result.0.same ∙ reading_faulty text p (growth c.body.new.tree) v (subst (λ l. Faulty l p v) same c.in_err-form.ensures.after.0)) }

pub returns-in_err-grow : goal.returns-in_err-grow
returns-in_err-grow c =
    let e = err_from_is_err_and c.from_residual-in_err-grow.result c.from_residual-in_err-grow.ensures.1 in
    let text = c.args.self.text.now in
    let same = ap (λ r. r.now) c.in_ok-body.ensures.unaltered in
    let p = c.body.new.self.place in
    let f = c.in-Some.form in
    let line : Next text p (Ok (Some f)) c.next_line.new.place = subst (λ l. Next l p (Ok (Some f)) c.next_line.new.place) same (subst (λ o. Next c.body.new.self.text.now p (Ok o) c.next_line.new.place) c.in-Some.is c.in_ok-form.ensures.after) in
    record { result = rw (e.1, e.2) (c.in_ok-body.ensures.result.0.same ∙ line_fault text (growth c.body.new.tree) p f line.0 (script_values c.in_err-grow.field-0.0) c.in_err-grow.ensures.after) }

pub returns : goal.returns
returns c =
    let text = c.args.self.text.now in
    let same = ap (λ r. r.now) c.in_ok-body.ensures.unaltered in
    let read = c.in_ok-body.ensures.result in
    let p = c.body.new.self.place in
    let q = c.next_line.new.place in
    let g = growth c.body.new.tree in
    elim c.match-branch-3.branch [
      | in-Some+in_ok-grow w ↦
          let f = w.in-Some.form in
          let line : Next text p (Ok (Some f)) q = subst (λ l. Next l p (Ok (Some f)) q) same (subst (λ o. Next c.body.new.self.text.now p (Ok o) q) w.in-Some.is c.in_ok-form.ensures.after) in
          absurd (top_stays g _ f (ap length read.1 ∙ c.requires.top) (read.2 f line.0) w.in_ok-grow.ensures.after)
      | in_default w ↦
          let none : Next text p (Ok None) q = subst (λ l. Next l p (Ok None) q) same (subst (λ o. Next c.body.new.self.text.now p (Ok o) q) w.in_default.is c.in_ok-form.ensures.after) in
          record { result = whole_end text (growth c.args.tree) g c.args.self.place p read.0.same none.0 c.finish.result (subst (λ t. AtEnd (finish (growth t)) p c.finish.result) w.tree-is (subst (λ r. AtEnd (finish (growth c.match-branch-3.tree)) r c.finish.result) none.1 c.finish.ensures.result)) }
    ]
