-- Starting what may start.
use Rattle.std.specs.Prelude.{ℕ, zero, suc, not, List, ◌∷◌, Some, None, Option}
use Rattle.rules.specs.Builds.{Build, has_running, in_state, with_tokens}
use Rattle.rules.specs.Lists.{first_of, when}
use Rattle.rules.specs.Plans.{all_makes}
use Rattle.rules.specs.Startable.{startable}
use Rattle.rules.specs.declared.progress.State.TheVariants.{Running}
use Rattle.schedule.specs.declared.record.Record.{Record}
use Rattle.schedule.specs.declared.record.Record.TheVariants.{StartInSlot, StartWithToken}
use Rattle.std.specs.Option.{option_map}

-- a pool as the rules use it: what a take answers and leaves, and what a put leaves
pub record Store (P : Type 0) : Type 0 where
  pub take : P → Option ℕ × P
  pub put : ℕ → P → P

-- a build with its pool, and the records so far, the last one first
pub record Run (P : Type 0) : Type 0 where
  pub build : Build
  pub pool : P
  pub records : List Record

-- a make and the child that it starts
pub record Start : Type 0 where
  pub make : ℕ
  pub child : ℕ

-- the start of this child by the make, if there is such a child
abbrev pub starts : ℕ → Option ℕ → Option Start
starts m c = option_map (λ k. record { make = m; child = k }) c

-- the lowest make without a running child that may start one: in its implicit slot
abbrev pub next_in_slot : Build → Option Start
next_in_slot b = first_of (λ m. when (not (has_running b m)) (λ _. starts m (startable b m))) (all_makes b.plan)

-- the make that takes the next token: the lowest that may start a child
abbrev pub next_with_token : Build → Option Start
next_with_token b = first_of (λ m. starts m (startable b m)) (all_makes b.plan)

-- the child runs, in the make's implicit slot
abbrev pub start_in_slot : {P : Type 0} → Start → Run P → Run P
start_in_slot s r = record {
  build = in_state r.build s.child Running;
  pool = r.pool;
  records = StartInSlot s.make s.child ∷ r.records;
}

-- the child runs, with a token that the make took
abbrev pub start_with_token : {P : Type 0} → Start → ℕ → P → Run P → Run P
start_with_token s byte p r = record {
  build = with_tokens (in_state r.build s.child Running) (record { by = s.make; byte = byte } ∷ r.build.tokens);
  pool = p;
  records = StartWithToken s.make s.child byte ∷ r.records;
}

-- a take answered: with none settling ends, with a token it goes on
abbrev pub taken : {P : Type 0} → Start → Option ℕ → P → Run P → (Run P → Run P) → Run P
taken s None p r onward = record { build = r.build; pool = p; records = r.records }
taken s (Some byte) p r onward = onward (start_with_token s byte p r)

-- a token for this start, if there is one to make
abbrev pub try_token : {P : Type 0} → Store P → Option Start → Run P → (Run P → Run P) → Run P
try_token store None r onward = r
try_token store (Some s) r onward = let answer = store.take r.pool in taken s answer.0 answer.1 r onward

-- this start in a slot, or else a start with a token
abbrev pub try_slot : {P : Type 0} → Store P → Option Start → Run P → (Run P → Run P) → Run P
try_slot store (Some s) r onward = onward (start_in_slot s r)
try_slot store None r onward = try_token store (next_with_token r.build) r onward

-- at most n starts: in an implicit slot as long as one is free, else with a token
abbrev pub settle_by : {P : Type 0} → Store P → ℕ → Run P → Run P
settle_by store zero r = r
settle_by store (suc n) r = try_slot store (next_in_slot r.build) r (settle_by store n)

-- until no token comes or nothing may start: each start uses up a node that has not begun
abbrev pub settle : {P : Type 0} → Store P → Run P → Run P
settle store r = settle_by store r.build.plan.nodes r
