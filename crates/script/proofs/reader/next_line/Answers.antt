use Rattle.std.proofs.Common.{◌-◌, length, drop, take_all, sym, refl, subst, arith}
use Rattle.std.proofs.lemmas.List.{length-drop}
use Rattle.script.specs.Steps.{Within}
use Rattle.script.proofs.Onward.{line_found, past_inside}
use Rattle.script.proofs.reader.next_line.Goals as goal

pub returns : goal.returns
returns c =
    let text = c.args.text.now in
    let p = c.args.place.now in
    let line = line_found text p _ _ _ _ (take_all (length text - p.byte) (drop p.byte text) (simp length-drop (omega arith))) c.before-n.ensures.result c.before-n.ensures.within refl c.in_ok-form.ensures.result in
    record { after = line; within = subst (Within text) (sym line.1) (past_inside text p line.0.0 c.requires.within) }
