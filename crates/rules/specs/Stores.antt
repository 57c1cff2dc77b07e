-- Pools as functions, for runs that are computed: what a take answers and leaves, and what a put leaves.
use Rattle.std.specs.Prelude.{ℕ, zero, suc, ◌+◌, ◌-◌, List, [], ◌∷◌, ◌++◌, Some, None, Option, nat_le}
use Rattle.rules.specs.Lists.{if_so}
use Rattle.rules.specs.Settling.{Store}

-- a pool with a number of tokens out, and what lies in it
pub record Stock (X : Type 0) : Type 0 where
  pub held : X
  pub out : ℕ

-- the first of a line is given
abbrev pub give : List ℕ → ℕ → Option ℕ × Stock (List ℕ)
give [] out = (None, record { held = []; out = out })
give (b ∷ bs) out = (Some b, record { held = bs; out = out + 1 })

-- a pipe, with what comes back at its end
abbrev pub pipe_store : Store (Stock (List ℕ))
pipe_store = record {
  take = λ s. give s.held s.out;
  put = λ b s. record { held = s.held ++ b ∷ []; out = s.out - 1 };
}

-- one `+` less
abbrev pub give_plus : ℕ → ℕ → Option ℕ × Stock ℕ
give_plus zero out = (None, record { held = 0; out = out })
give_plus (suc n) out = (Some 43, record { held = n; out = out + 1 })

-- a semaphore
abbrev pub semaphore_store : Store (Stock ℕ)
semaphore_store = record {
  take = λ s. give_plus s.held s.out;
  put = λ b s. record { held = s.held + 1; out = s.out - 1 };
}

-- a quota: nothing is given once so many are out
abbrev pub quota_store : {X : Type 0} → ℕ → Store (Stock X) → Store (Stock X)
quota_store most below = record {
  take = λ s. if_so (nat_le most s.out) (λ _. (None, s)) (λ _. below.take s);
  put = below.put;
}

-- a load limit: nothing is given while the reading is at least the limit
abbrev pub limit_store : {X : Type 0} → ℕ → ℕ → Store X → Store X
limit_store limit reading below = record {
  take = λ s. if_so (nat_le limit reading) (λ _. (None, s)) (λ _. below.take s);
  put = below.put;
}
