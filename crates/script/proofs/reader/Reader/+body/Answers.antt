use Rattle.std.proofs.Common.{◌≡◌, ℕ, ◌<◌, ◌∷◌, length, sym, ap, ◌∙◌, subst}
use Rattle.std.proofs.lemmas.Result.{err_from_is_err_and}
use Rattle.lines.specs.Faults.{blamed, line_values}
use Rattle.lines.specs.declared.forms.Form.TheVariants.{Done}
use Rattle.tree.specs.Grown.{growth}
use Rattle.script.specs.Reading.{past, reading, grow}
use Rattle.script.specs.Steps.{Went, Line, line_at, Faulty, Stopped}
use Rattle.script.specs.Values.{script_values}
use Rattle.script.proofs.Onward.{reading_faulty}
use Rattle.script.proofs.Bodies.{turn, went_on, line_went, line_fault, same_outer, make_outer, tail_same}
use Rattle.script.proofs.reader.Reader.+body.Goals as goal
use Rattle.script.proofs.reader.Reader.+body.Goals.{After-look, In_ok-next_line, In_ok-grow, In-Make, In_ok-body, In_ok-close}

-- the line of this turn
here : (t : ℕ) (c : In_ok-next_line t) → Line c.args.self.now.text.now c.loop-form.self.place c.in-Some.form × (c.in-Some.form ≡ Done → ⊥) × (c.next_line.new.place ≡ past c.loop-form.self.place (line_at c.args.self.now.text.now c.loop-form.self.place))
here t c =
    let u = c.look.ensures.unaltered in
    turn c.args.self.now.text.now c.loop-form.self.text.now c.look.new.self.text.now c.loop-form.self.place c.look.new.self.place c.next_line.new.place c.in-Some.form c.in_ok-form.field-0 c.in_ok-next_line.field-0 (ap (λ r. r.now) c.loop-form.invariant.2) (ap (λ r. r.text.now) u) (ap (λ r. r.place) u) c.in-Some.is c.in_ok-form.ensures.result c.in_ok-next_line.ensures.after

-- what this turn's line does
grown : (t : ℕ) (c : In_ok-grow t) → Went c.args.self.now.text.now (growth c.args.tree.now) c.args.self.now.place (growth c.grow.new.tree) c.next_line.new.place
grown t c =
    let h = here t (goal.at.In_ok-grow t c).In_ok-next_line in
    went_on c.args.self.now.text.now (growth c.args.tree.now) (growth c.loop-form.tree) (growth c.grow.new.tree) c.args.self.now.place c.loop-form.self.place c.next_line.new.place c.loop-form.invariant.0
    (line_went c.args.self.now.text.now (growth c.loop-form.tree) c.loop-form.self.place c.in-Some.form h.0 (growth c.grow.new.tree) c.next_line.new.place c.loop-form.invariant.0.within h.2 c.in_ok-grow.ensures.after)

-- a nested make is open around what follows
nested : (t : ℕ) (c : In-Make t) → ((growth c.grow.new.tree).outer ≡ (growth c.loop-form.tree).make ∷ (growth c.loop-form.tree).outer) × (length (growth c.loop-form.tree).outer < 7)
nested t c =
    make_outer (growth c.loop-form.tree) (growth c.grow.new.tree) (ap (λ f. grow f (growth c.loop-form.tree)) (sym c.in-Make.is) ∙ c.in_ok-grow.ensures.after)

-- the text is the same after the look
text_is : (t : ℕ) (c : After-look t) → c.look.new.self.text ≡ c.args.self.now.text
text_is t c = ap (λ r. r.text) c.look.ensures.unaltered ∙ c.loop-form.invariant.2

pub returns-in_err-form-clause-result : goal.returns-in_err-form-clause-result
returns-in_err-form-clause-result t c =
    let e = err_from_is_err_and c.from_residual.result c.from_residual.ensures.1 in
    let text = c.args.self.now.text.now in
    let p = c.loop-form.self.place in
    rw (e.1, e.2) (c.loop-form.invariant.0.same ∙ reading_faulty text p (growth c.loop-form.tree) (line_values c.in_err-form.field-0.0) (subst (λ l. Faulty l p (line_values c.in_err-form.field-0.0)) (ap (λ r. r.now) c.loop-form.invariant.2) c.in_err-form.ensures.result))

pub returns-in_err-grow-clause-result : goal.returns-in_err-grow-clause-result
returns-in_err-grow-clause-result t c =
    let e = err_from_is_err_and c.from_residual-in_err-grow.result c.from_residual-in_err-grow.ensures.1 in
    let text = c.args.self.now.text.now in
    let p = c.loop-form.self.place in
    let f = c.in-Some.form in
    let g = growth c.loop-form.tree in
    let h = here t (goal.at.returns-in_err-grow-clause-result t c).In_ok-next_line in
    rw (e.1, e.2) (c.loop-form.invariant.0.same ∙ line_fault text g p f h.0 (script_values c.in_err-grow.field-0.0) (ap (λ r. blamed r.place (grow f g)) (sym c.look.ensures.unaltered) ∙ c.in_err-grow.ensures.after))

-- what the nested body does
inner : (t : ℕ) (c : In_ok-body t) → Went c.args.self.now.text.now (growth c.args.tree.now) c.args.self.now.place (growth c.body.new.tree) c.body.new.self.place × Stopped c.args.self.now.text.now c.body.new.self.place × ((growth c.body.new.tree).outer ≡ (growth c.loop-form.tree).make ∷ (growth c.loop-form.tree).outer) × (c.body.new.self.text ≡ c.args.self.now.text)
inner t c =
    let n = nested t (goal.at.In_ok-body t c).In-Make in
    let w = grown t (goal.at.In_ok-body t c).In_ok-grow in
    let same = text_is t (goal.at.In_ok-body t c).After-look in
    let g = growth c.grow.new.tree in
    let h = growth c.body.new.tree in
    let q = c.next_line.new.place in
    let r = c.body.new.self.place in
    let b : (Went c.args.self.now.text.now g q h r) × (h.outer ≡ g.outer) × Stopped c.args.self.now.text.now r = subst (λ l. (Went l g q h r) × (h.outer ≡ g.outer) × Stopped l r) (ap (λ r. r.now) same) c.in_ok-body.ensures.result in
    (went_on c.args.self.now.text.now (growth c.args.tree.now) g h c.args.self.now.place q r w b.0, b.2, b.1 ∙ n.0, c.in_ok-body.ensures.unaltered ∙ same)

pub returns-in_err-body-clause-result : goal.returns-in_err-body-clause-result
returns-in_err-body-clause-result t c =
    let e = err_from_is_err_and c.from_residual-in_err-body.result c.from_residual-in_err-body.ensures.1 in
    let w = grown t (goal.at.returns-in_err-body-clause-result t c).In_ok-grow in
    let same = text_is t (goal.at.returns-in_err-body-clause-result t c).After-look in
    rw (e.1, e.2) (w.same ∙ ap (λ l. reading l.now (growth c.grow.new.tree) c.next_line.new.place) (sym same) ∙ c.in_err-body.ensures.result)

pub close-requires-clause-stopped : goal.close-requires-clause-stopped
close-requires-clause-stopped t c =
    let i = inner t (goal.at.close-requires-clause-stopped t c).In_ok-body in
    subst (λ l. Stopped l c.body.new.self.place) (sym (ap (λ r. r.now) i.3)) i.1

-- what the whole nested make does
whole : (t : ℕ) (c : In_ok-close t) → Went c.args.self.now.text.now (growth c.args.tree.now) c.args.self.now.place (growth c.close.new.tree) c.close.new.self.place × ((growth c.close.new.tree).outer ≡ (growth c.args.tree.now).outer) × (c.close.new.self.text ≡ c.args.self.now.text)
whole t c =
    let i = inner t (goal.at.In_ok-close t c).In_ok-body in
    let g = growth c.body.new.tree in
    let h = growth c.close.new.tree in
    let q = c.body.new.self.place in
    let r = c.close.new.self.place in
    let b : Went c.args.self.now.text.now g q h r × ((m : ℕ) × (g.outer ≡ m ∷ h.outer)) = subst (λ l. Went l g q h r × ((m : ℕ) × (g.outer ≡ m ∷ h.outer))) (ap (λ r. r.now) i.3) c.in_ok-close.ensures.result in
    (went_on c.args.self.now.text.now (growth c.args.tree.now) g h c.args.self.now.place q r i.0 b.0, tail_same b.1.1 i.2 ∙ c.loop-form.invariant.1, c.in_ok-close.ensures.unaltered ∙ i.3)

pub loop-form-preserved-in-Continue-branch-6 : goal.loop-form-preserved-in-Continue-branch-6
loop-form-preserved-in-Continue-branch-6 t c = whole t c

pub returns-in_err-close-clause-result : goal.returns-in_err-close-clause-result
returns-in_err-close-clause-result t c =
    let e = err_from_is_err_and c.from_residual-in_err-close.result c.from_residual-in_err-close.ensures.1 in
    let i = inner t (goal.at.returns-in_err-close-clause-result t c).In_ok-body in
    rw (e.1, e.2) (i.0.same ∙ ap (λ l. reading l.now (growth c.body.new.tree) c.body.new.self.place) (sym i.3) ∙ c.in_err-close.ensures.result)

pub loop-form-preserved : goal.loop-form-preserved
loop-form-preserved t c =
    let h = here t (goal.at.loop-form-preserved t c).In_ok-next_line in (
      grown t (goal.at.loop-form-preserved t c).In_ok-grow,
      same_outer c.in-Some.form (growth c.loop-form.tree) (growth c.grow.new.tree) c.in_default-form.not-Make h.1 c.in_ok-grow.ensures.after ∙ c.loop-form.invariant.1,
      text_is t (goal.at.loop-form-preserved t c).After-look,
    )
