-- What obtaining and releasing a grant does to a lender.
use Rattle.std.specs.Prelude.{◌≡◌, Some, None, Ok, Err, Option, Result}
use Rattle.pool.specs.Ways.{Ways}
use Rattle.pool.specs.declared.refusals.Refusal.TheVariants.{NotOut}
use Rattle.tool.specs.declared.grants.Grant.{Grant}
use Rattle.tool.specs.declared.grants.Unreleased.{Unreleased}

-- An obtain got nothing, since nothing was ready, and the lender is as it was; or a grant of the byte that it gave.
abbrev pub Obtain : {P : Type 0} → Ways P → P → Option Grant → P → Type 0
Obtain w p None q = ((w.means p).ready ≡ 0) × (q ≡ p)
Obtain w p (Some g) q = w.gave p g.byte q

-- A release brought the grant's byte back; or none of it was out, and the same grant came back with the lender as it was.
abbrev pub Release : {P : Type 0} → Ways P → P → Grant → Result Unit Unreleased → P → Type 0
Release w p g (Ok _) q = w.back p g.byte q
Release w p g (Err e) q = (e.refusal ≡ NotOut) × (e.grant ≡ g) × ((w.means p).outs g.byte ≡ 0) × (q ≡ p)
