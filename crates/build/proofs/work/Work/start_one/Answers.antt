use Rattle.std.proofs.Common.{◌+◌, sym, refl, ap, ◌∙◌, subst, arith}
use Rattle.rules.specs.Builds.{Build}
use Rattle.build.specs.Hands.{Backed}
use Rattle.build.specs.Models.{may_start, model}
use Rattle.build.specs.Rooms.{to_start}
use Rattle.build.proofs.Altering.{kept_by, kept_same}
use Rattle.build.proofs.Fitting.{one_to_start, fits}
use Rattle.build.proofs.Settles.{slot_may, token_may, slot_leads, token_leads, nothing_ends, none_ends, fewer_to_start, backed_more}
use Rattle.build.proofs.work.Work.start_one.Goals as goal

pub start_in_slot-requires : goal.start_in_slot-requires
start_in_slot-requires g c = record { start = slot_may _ _ (sym c.in-Some.ensures); room = c.requires.room }

pub returns-in-Some : goal.returns-in-Some
returns-in-Some g c =
    let w = g.P.Lender.ways in
    let b = model c.args.self.now in
    let s = may_start c.in-Some.start in
    let may = slot_may b s (sym c.in-Some.ensures) in
    let change = c.start_in_slot.ensures.after in
    let fewer = fewer_to_start b s.child (omega (arith, (fits c.args.self.now).whole, may.child)) may.unbegun in
    record {
      after = (slot_leads w b _ s c.in-Some.ensures change.build change.wrote, ap (λ (d : Build). to_start d.nodes + 1) change.build ∙ fewer);
      kept = kept_by w _ change refl refl c.requires.backed;
    }

pub returns-in_default-next_with_token : goal.returns-in_default-next_with_token
returns-in_default-next_with_token g c =
    let w = g.P.Lender.ways in
    let e = c.args.self.now in
    record {
      after = λ turns enough. nothing_ends w (model e) _ _ e.written turns (omega (arith, c.requires.room)) c.in_default.ensures c.in_default-next_with_token.ensures;
      kept = kept_same w _ e c.requires.backed;
    }

pub returns-in_default-take : goal.returns-in_default-take
returns-in_default-take g c =
    let w = g.P.Lender.ways in
    let e = c.args.self.now in
    let b = model e in
    let s = may_start c.in-Some-next_with_token.start in
    let may = token_may b s (sym c.in-Some-next_with_token.ensures) in
    let one = one_to_start b s.child (omega (arith, (fits c.args.self.now).whole, may.child)) may.unbegun in
    let none = c.in_default-take.ensures in
    record {
      after = λ turns enough. none_ends w b s _ _ _ e.written turns (omega (arith, c.requires.room)) c.in_default.ensures c.in-Some-next_with_token.ensures none (omega arith);
      kept = kept_same w _ e (subst (λ q. Backed w q b.tokens) (sym none.1) c.requires.backed);
    }

pub start_with_token-requires : goal.start_with_token-requires
start_with_token-requires g c = record { start = token_may _ _ (sym c.in-Some-next_with_token.ensures); room = c.requires.room }

pub returns : goal.returns
returns g c =
    let w = g.P.Lender.ways in
    let b = model c.args.self.now in
    let s = may_start c.in-Some-next_with_token.start in
    let byte = c.in-Some-take.byte in
    let may = token_may b s (sym c.in-Some-next_with_token.ensures) in
    let change = c.start_with_token.ensures.after in
    let gave = c.in-Some-take.ensures in
    let fewer = fewer_to_start b s.child (omega (arith, (fits c.args.self.now).whole, may.child)) may.unbegun in
    record {
      after = (token_leads w b _ s byte c.in_default.ensures c.in-Some-next_with_token.ensures gave change.build change.wrote, ap (λ (d : Build). to_start d.nodes + 1) change.build ∙ fewer);
      kept = kept_by w _ change refl refl (backed_more w _ _ (record { by = s.make; byte = byte }) b.tokens c.requires.backed (g.met.P.Lender.taken _ _ _ gave));
    }
