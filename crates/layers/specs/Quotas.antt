-- What a quota over a pool means, and what one call does to it.
use Rattle.std.specs.Prelude.{◌≡◌, ℕ, ◌-◌, ◌<◌, min}
use Rattle.pool.specs.Meaning.{total}
use Rattle.pool.specs.Ways.{Ways}
use Rattle.layers.specs.declared.quota.Quota.{Quota}

-- What is ready: what is ready below, as far as the quota is not yet used up by what is out.
abbrev pub quota_ready : {P : Type 0} → Ways P → Quota P → ℕ
quota_ready w s = min (w.means s.below).ready (s.most - total (w.means s.below).outs)

-- A quota has the tokens of the pool below, lends only while it is not used up, passes all else down, and stays as it is.
abbrev pub quota_ways : {P : Type 0} → Ways P → Ways (Quota P)
quota_ways w = record {
  means = λ s. record { ins = (w.means s.below).ins; outs = (w.means s.below).outs; ready = quota_ready w s };
  gave = λ s b t. (0 < quota_ready w s) × w.gave s.below b t.below × (t.most ≡ s.most);
  back = λ s b t. w.back s.below b t.below × (t.most ≡ s.most);
  heard = λ s x t. w.heard s.below x t.below × (t.most ≡ s.most);
}
