-- What a load limit over a pool means, and what one call does to it.
use Rattle.std.specs.Prelude.{◌≡◌, cond, ℕ, ◌<◌, leb}
use Rattle.pool.specs.Ways.{Ways}
use Rattle.layers.specs.declared.load_limit.LoadLimit.{LoadLimit}

-- What is ready: nothing while the last reading is at least the limit, else what is ready below.
abbrev pub limit_ready : {P : Type 0} → Ways P → LoadLimit P → ℕ
limit_ready w s = cond (leb s.limit s.reading) 0 (w.means s.below).ready

-- A load limit has the tokens of the pool below, lends only while the last reading is under the limit,
-- passes all else down, keeps the last reading that was heard, and never changes its limit.
abbrev pub limit_ways : {P : Type 0} → Ways P → Ways (LoadLimit P)
limit_ways w = record {
  means = λ s. record { ins = (w.means s.below).ins; outs = (w.means s.below).outs; ready = limit_ready w s };
  gave = λ s b t. (0 < limit_ready w s) × w.gave s.below b t.below × (t.limit ≡ s.limit) × (t.reading ≡ s.reading);
  back = λ s b t. w.back s.below b t.below × (t.limit ≡ s.limit) × (t.reading ≡ s.reading);
  heard = λ s x t. w.heard s.below x t.below × (t.limit ≡ s.limit) × (t.reading ≡ x);
}
