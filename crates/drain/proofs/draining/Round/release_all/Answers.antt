use Rattle.std.proofs.Common.{◌<◌, Ok, Err, IsOk, vec_items, Result, refl, ◌∙◌, subst, arith}
use Rattle.pool.specs.Ways.{Ways}
use Rattle.tool.specs.Grants.{Release}
use Rattle.tool.specs.declared.grants.Grant.{Grant}
use Rattle.tool.specs.declared.grants.Unreleased.{Unreleased}
use Rattle.drain.proofs.Rounds.{last_is_out, releasing_more}
use Rattle.drain.proofs.draining.Round.release_all.Goals as goal

-- a release is not refused while the grant's byte is out
not_refused : {P : Type 0} (w : Ways P) (p : P) (g : Grant) (r : Result Unit Unreleased) (q : P) → Release w p g r q → 0 < (w.means p).outs g.byte → IsOk r
not_refused w p g (Ok _) q released some = refl
not_refused w p g (Err e) q released some = absurd (omega (arith, released.2))

pub unwrap-requires : goal.unwrap-requires
unwrap-requires g c =
    not_refused g.P.Lender.ways _ _ c.release.result _ c.release.ensures.after (last_is_out _ _ _ _ _ _ _ _ _ c.loop-grant.invariant.0 c.in-Some.ensures.items)

pub loop-grant-preserved : goal.loop-grant-preserved
loop-grant-preserved g c =
    let back = subst (λ r. Release g.P.Lender.ways c.loop-grant.pool c.in-Some.grant r c.release.new.lender) c.unwrap.ensures c.release.ensures.after in (
      releasing_more _ _ _ _ _ _ _ (vec_items c.push_reserved.new.self) _ _ c.in-Some.grant c.standing.result c.loop-grant.invariant.0 c.in-Some.ensures.items back (g.met.P.Lender.returned _ _ _ back) (c.standing.ensures.byte ∙ c.byte-byte.ensures.result) c.standing.ensures.stands c.push_reserved.ensures.items,
      omega (arith, c.loop-grant.invariant.1, c.in-Some.ensures.cases, c.push_reserved.ensures.len, c.push_reserved.ensures.capacity),
    )
