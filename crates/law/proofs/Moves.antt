-- The moves of a build: what the rules do, one start, answer or end at a time.
use Rattle.std.proofs.Common.{◌≡◌, ℕ, ◌<◌, true, Some, None}
use Rattle.law.proofs.Shapes.{Due}
use Rattle.rules.specs.Builds.{at}
use Rattle.rules.specs.Ending.{ends_so, put_one, mark, finish, make_end}
use Rattle.rules.specs.Settled.{Settles, slot, token, no_token, nothing}
use Rattle.rules.specs.Settling.{Store, Run, start_in_slot, start_with_token}
use Rattle.rules.specs.Settling.{Start}
use Rattle.rules.specs.Words.{InSlot, WithToken, is_ended}
use Rattle.rules.specs.declared.progress.State.{State}

-- a child has ended, and its make has put back a token and is marked
abbrev pub after_child : {P : Type 0} → Store P → State → ℕ → Run P → Run P
after_child store how n r = mark how (r.build.plan.make n) n (put_one store (r.build.plan.make n) (ends_so how n r))

-- with this answer of the pool
abbrev pub with_pool : {P : Type 0} → P → Run P → Run P
with_pool p r = record { build = r.build; pool = p; records = r.records }

pub data Moves {P : Type 0} (store : Store P) : Run P → Run P → Type 0 where
  still : {r : Run P} → Moves store r r
  in_slot : {r r' : Run P} (s : Start) → InSlot r.build s → Moves store (start_in_slot s r) r' → Moves store r r'
  with_token : {r r' : Run P} (s : Start) (byte : ℕ) (p : P) → WithToken r.build s → store.take r.pool ≡ (Some byte, p) → Moves store (start_with_token s byte p r) r' → Moves store r r'
  no_more : {r r' : Run P} (p : P) → store.take r.pool ≡ (None, p) → Moves store (with_pool p r) r' → Moves store r r'
  child : {r r' : Run P} (how : State) (n : ℕ) → 0 < n → is_ended how ≡ true → Due r.build.plan r.build.nodes how n → Moves store (after_child store how n r) r' → Moves store r r'
  top : {r r' : Run P} (how : State) → how ≡ make_end (at r.build 0) → is_ended how ≡ true → Due r.build.plan r.build.nodes how 0 → Moves store (finish (ends_so how 0 r)) r' → Moves store r r'

module _ {P : Type 0} (store : Store P) where
  pub both_moves : {r₁ r₂ r₃ : Run P} → Moves store r₁ r₂ → Moves store r₂ r₃ → Moves store r₁ r₃
  both_moves still n = n
  both_moves (in_slot s i m) n = in_slot s i (both_moves m n)
  both_moves (with_token s byte p w e m) n = with_token s byte p w e (both_moves m n)
  both_moves (no_more p e m) n = no_more p e (both_moves m n)
  both_moves (child how k pos ended due m) n = child how k pos ended due (both_moves m n)
  both_moves (top how so ended due m) n = top how so ended due (both_moves m n)

  -- settling is a row of starts
  pub settle_moves : {r r' : Run P} → Settles store r r' → Moves store r r'
  settle_moves (slot s i rest) = in_slot s i (settle_moves rest)
  settle_moves (token s byte p used w e rest) = with_token s byte p w e (settle_moves rest)
  settle_moves (no_token s p used w e) = no_more p e still
  settle_moves (nothing none) = still

  -- what every move keeps
  pub record Keeping (Q : Run P → Type 0) : Type 0 where
    pub on_slot : (s : Start) (r : Run P) → InSlot r.build s → Q r → Q (start_in_slot s r)
    pub on_token : (s : Start) (byte : ℕ) (p : P) (r : Run P) → WithToken r.build s → store.take r.pool ≡ (Some byte, p) → Q r → Q (start_with_token s byte p r)
    pub on_none : (p : P) (r : Run P) → store.take r.pool ≡ (None, p) → Q r → Q (with_pool p r)
    pub on_child : (how : State) (n : ℕ) (r : Run P) → 0 < n → is_ended how ≡ true → Due r.build.plan r.build.nodes how n → Q r → Q (after_child store how n r)
    pub on_top : (how : State) (r : Run P) → how ≡ make_end (at r.build 0) → is_ended how ≡ true → Due r.build.plan r.build.nodes how 0 → Q r → Q (finish (ends_so how 0 r))

  pub moves_keep : (Q : Run P → Type 0) → Keeping Q → {r r' : Run P} → Moves store r r' → Q r → Q r'
  moves_keep Q k still h = h
  moves_keep Q k {r} (in_slot s i m) h = moves_keep Q k m (k.on_slot s r i h)
  moves_keep Q k {r} (with_token s byte p w e m) h = moves_keep Q k m (k.on_token s byte p r w e h)
  moves_keep Q k {r} (no_more p e m) h = moves_keep Q k m (k.on_none p r e h)
  moves_keep Q k {r} (child how n pos ended due m) h = moves_keep Q k m (k.on_child how n r pos ended due h)
  moves_keep Q k {r} (top how so ended due m) h = moves_keep Q k m (k.on_top how r so ended due h)
