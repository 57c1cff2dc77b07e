-- What was noted of tokens when jobs failed.
use Rattle.std.specs.Prelude.{◌≡◌, ℕ, ◌+◌, ◌≤◌, List, [], ◌∷◌, reverse, take, drop, vec_len, vec_capacity}
use Rattle.build.specs.declared.losses.Loss.{Loss as Mark}
use Rattle.build.specs.declared.losses.Losses.{Losses}
use Rattle.rules.specs.Builds.{Loss}

-- the losses, by the job that failed last first: its tokens are the last ones
abbrev pub losses_by : List Mark → List ℕ → List Loss
losses_by [] bytes = []
losses_by (m ∷ ms) bytes = record { job = m.job; tokens = drop m.from bytes } ∷ losses_by ms (take m.from bytes)

abbrev pub noted_losses : Losses → List Loss
noted_losses s = losses_by (reverse s.jobs.items) s.bytes.items

-- at most so many tokens more are noted, in the memory that was there
pub record Grown (s : Losses) (more : ℕ) (s' : Losses) : Type 0 where
  pub jobs : vec_capacity s'.jobs ≡ vec_capacity s.jobs
  pub most : vec_capacity s'.bytes ≡ vec_capacity s.bytes
  pub used : vec_len s'.bytes ≤ vec_len s.bytes + more
