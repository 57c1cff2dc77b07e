use Rattle.std.proofs.Common.{vec_items, sym, refl, ◌∙◌, subst, arith}
use Rattle.pool.specs.Meaning.{Taken}
use Rattle.pool.proofs.Totals.{total_more}
use Rattle.drain.specs.Draining.{ObtainedAll}
use Rattle.drain.proofs.Rounds.{obtaining_none, obtaining_more, obtaining_all}
use Rattle.drain.proofs.draining.Round.obtain_all.Goals as goal

pub loop-grant-init : goal.loop-grant-init
loop-grant-init g c =
    let held = c.args.self.now.held in
    let events = c.args.self.now.events in
    record {
      so_far = obtaining_none _ _ _ _ (sym held.ok.0 ∙ c.requires.empty.0) (sym events.ok.0 ∙ c.requires.empty.1);
      told = omega arith;
      wide = refl;
      out = omega arith;
    }

pub loop-grant-preserved : goal.loop-grant-preserved
loop-grant-preserved g c =
    let w = g.P.Lender.ways in
    let taken : Taken (w.means c.loop-grant.pool) c.in-Some.grant.byte (w.means c.obtain.new.lender) = g.met.P.Lender.taken _ _ _ c.in-Some.ensures.after in
    let inv = c.loop-grant.invariant in
    record {
      so_far = obtaining_more w _ (vec_items c.loop-grant.self.held) (vec_items c.push_reserved-in-Some.new.self) (vec_items c.loop-grant.self.events) (vec_items c.push_reserved.new.self) _ _ c.in-Some.grant c.standing.result inv.so_far c.in-Some.ensures.after taken (c.standing.ensures.byte ∙ c.byte.ensures.result) c.standing.ensures.stands c.push_reserved-in-Some.ensures.items c.push_reserved.ensures.items;
      told = omega (arith, inv.told, c.push_reserved.ensures.len, c.push_reserved-in-Some.ensures.len);
      wide = c.push_reserved.ensures.capacity ∙ inv.wide;
      out = omega (arith, inv.out, total_more _ _ _ 1 taken.byte taken.outs, c.push_reserved-in-Some.ensures.len);
    }

pub returns-clause-after : goal.returns-clause-after
returns-clause-after g c =
    let ended = c.in_default.ensures.after in
    subst (ObtainedAll g.P.Lender.ways c.args.pool.now (vec_items c.loop-grant.self.held) (vec_items c.push_reserved-2.new.self)) (sym ended.1) (obtaining_all _ _ _ _ _ _ c.loop-grant.invariant.so_far ended.0 c.push_reserved-2.ensures.items)

pub returns-clause-capacity : goal.returns-clause-capacity
returns-clause-capacity g c = c.push_reserved-2.ensures.capacity ∙ c.loop-grant.invariant.wide
