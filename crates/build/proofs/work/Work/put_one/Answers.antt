use Rattle.std.proofs.Common.{◌≡◌, sym, refl, ap, subst, arith}
use Rattle.pool.specs.Ways.{Put}
use Rattle.rules.specs.Builds.{Build, with_tokens}
use Rattle.build.specs.Hands.{Backed}
use Rattle.build.specs.Models.{model, in_hand}
use Rattle.build.specs.Rooms.{room}
use Rattle.build.proofs.Altering.{noted_build}
use Rattle.build.proofs.Returning.{back_fewer, back_out, gave_none, backed_fewer, put_goes, put_none_leads, put_one_leads, gave_fewer}
use Rattle.build.proofs.Shown.{length_hand}
use Rattle.build.proofs.work.Work.put_one.Goals as goal

pub invariant_of-self : goal.invariant_of-self
invariant_of-self g c =
    let e = c.args.self.now in
    let left = c.give_back.new.self in
    let fewer = gave_fewer c.args.m (in_hand e.tokens) c.give_back.result (in_hand left) c.give_back.ensures.after in
    record {
      whole = e.whole;
      wide = e.wide;
      few = omega (arith, e.few, fewer, length_hand e.tokens, length_hand left, e.tokens.held.ok.0, left.held.ok.0);
      listed = e.listed;
      noted = e.noted;
    }

pub returns-in_default : goal.returns-in_default
returns-in_default g c =
    let w = g.P.Lender.ways in
    let e = c.args.self.now in
    let b = model e in
    let none = gave_none c.args.m _ _ c.in_default.ensures.after in
    let same = none.1 in
    record {
      after = put_none_leads w b c.args.m _ _ _ e.written (omega (arith, c.requires.room)) none.0 (ap (with_tokens b) same);
      kept = record {
        backed = subst (Backed w _) (sym same) c.requires.backed;
        plan = refl;
        keep = refl;
        spent = omega arith;
      };
    }

pub unwrap-requires : goal.unwrap-requires
unwrap-requires g c =
    put_goes g.P.Lender.ways _ _ _ c.put.result c.put.ensures (omega (arith, back_out g.P.Lender.ways _ _ _ _ _ c.requires.backed c.in-Some.ensures.after))

pub returns : goal.returns
returns g c =
    let w = g.P.Lender.ways in
    let e = c.args.self.now in
    let b = model e in
    let found = c.in-Some.ensures.after in
    let back = subst (λ r. Put w c.args.pool.now c.in-Some.byte r c.put.new.self) c.unwrap.ensures c.put.ensures in
    let left = in_hand c.give_back.new.self in
    let noted = c.note.ensures.after in
    let is : model c.note.new.self ≡ with_tokens b left = noted_build noted in
    let fewer = back_fewer c.args.m b.tokens c.in-Some.byte left found in
    record {
      after = put_one_leads w b c.args.m _ c.in-Some.byte left found back is noted.wrote;
      kept = record {
        backed = subst (Backed w _) (sym (ap (λ (d : Build). d.tokens) is)) (backed_fewer w _ _ c.args.m b.tokens c.in-Some.byte left c.requires.backed found (g.met.P.Lender.returned _ _ _ back));
        plan = ap (λ (d : Build). d.plan) is;
        keep = ap (λ (d : Build). d.keep) is;
        spent = omega (arith, noted.wrote.end, ap room is);
      };
    }
