-- The pools that runs are computed with are those that the contracts of the pools speak of.
use Rattle.std.specs.Prelude.{◌≡◌, ℕ, Some, None}
use Rattle.layers.specs.LoadLimits.{limit_ways}
use Rattle.layers.specs.Quotas.{quota_ways}
use Rattle.pipe.specs.Pipes.{line, pipe_ways}
use Rattle.pool.specs.Meaning.{total}
use Rattle.pool.specs.Ways.{Ways}
use Rattle.rules.specs.Settling.{Store}
use Rattle.rules.specs.Stores.{Stock, pipe_store, semaphore_store, quota_store, limit_store}
use Rattle.semaphore.specs.Semaphores.{semaphore_ways}

-- A pool p computes as `store p` does, with `stock p` for what lies in it and what is out.
pub record Agrees {P X : Type 0} (w : Ways P) (store : P → Store (Stock X)) (stock : P → Stock X) : Type 0 where
  pub none : (p : P) → (w.means p).ready ≡ 0 → (store p).take (stock p) ≡ (None, stock p)
  pub gave : (p : P) (b : ℕ) (q : P) → w.gave p b q → (store p).take (stock p) ≡ (Some b, stock q)
  pub back : (p : P) (b : ℕ) (q : P) → w.back p b q → (store p).put b (stock p) ≡ stock q
  pub out : (p : P) → (stock p).out ≡ total (w.means p).outs

-- A pipe computes by its line.
abbrev pub pipe_agrees : Type 0
pipe_agrees = Agrees pipe_ways (λ _. pipe_store) (λ p. record { held = line p; out = total (pipe_ways.means p).outs })

-- A semaphore computes by its count.
abbrev pub semaphore_agrees : Type 0
semaphore_agrees = Agrees semaphore_ways (λ _. semaphore_store) (λ s. record { held = s.tokens_in; out = total (semaphore_ways.means s).outs })

-- A layer computes so over a pool that does.
abbrev pub layers_agree : {P : Type 0} → Ways P → (X : Type 0) → Type 0
layers_agree {P} w X =
    (store : P → Store (Stock X)) (stock : P → Stock X) → Agrees w store stock →
    Agrees (quota_ways w) (λ s. quota_store s.most (store s.below)) (λ s. stock s.below)
    × Agrees (limit_ways w) (λ s. limit_store s.limit s.reading (store s.below)) (λ s. stock s.below)
