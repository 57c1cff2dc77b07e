-- Settling, as a row of starts each of which is the one that the rule asks for.
use Rattle.std.specs.Prelude.{◌≡◌, ℕ, false, length, Some, None}
use Rattle.rules.specs.Builds.{Build, has_running}
use Rattle.rules.specs.Settling.{Store, Run, Start, start_in_slot, start_with_token, settle}
use Rattle.rules.specs.Words.{Startable, Make, InSlot, WithToken}

-- no make without a running child may start one
abbrev pub SlotsUsed : Build → Type 0
SlotsUsed b = (m c : ℕ) → Make b.plan m → has_running b m ≡ false → Startable b m c → ⊥

-- no make may start a child
abbrev pub NothingStarts : Build → Type 0
NothingStarts b = (m c : ℕ) → Make b.plan m → Startable b m c → ⊥

-- Settling leads from one run to another.
pub data Settles {P : Type 0} (store : Store P) : Run P → Run P → Type 0 where
  -- as long as some make may start a child in its slot, the lowest such make does
  slot : {r r' : Run P} (s : Start) → InSlot r.build s → Settles store (start_in_slot s r) r' → Settles store r r'
  -- otherwise the lowest make that may start a child takes a token and starts it
  token : {r r' : Run P} (s : Start) (byte : ℕ) (p : P) → SlotsUsed r.build → WithToken r.build s → store.take r.pool ≡ (Some byte, p) → Settles store (start_with_token s byte p r) r' → Settles store r r'
  -- it ends when no token comes
  no_token : {r : Run P} (s : Start) (p : P) → SlotsUsed r.build → WithToken r.build s → store.take r.pool ≡ (None, p) → Settles store r (record { build = r.build; pool = p; records = r.records })
  -- or when nothing may start
  nothing : {r : Run P} → NothingStarts r.build → Settles store r r

-- the build knows how far each node of its tree is
abbrev pub Complete : Build → Type 0
Complete b = length b.nodes ≡ b.plan.nodes

-- settling is such a row of starts, whatever the pool answers
abbrev pub SettlingIsSo : Type 0 → Type 0
SettlingIsSo P = (store : Store P) (r : Run P) → Complete r.build → Settles store r (settle store r)
