-- Where a token goes back: its record stands directly behind the end that brought it.
use Rattle.std.specs.Prelude.{◌≡◌, ℕ, Bool, List, [], ◌∷◌}
use Rattle.rules.specs.Calls.{open_run, step_run, kill_run, poll_run, halt_run, rounds_run}
use Rattle.rules.specs.Plans.{Plan}
use Rattle.rules.specs.Settling.{Store, Run}
use Rattle.schedule.specs.declared.record.Record.{Record}
use Rattle.schedule.specs.declared.record.Record.TheVariants.{Open, StartInSlot, StartWithToken, Step, Kill, Halt, EndedWell, EndedFailed, PutBack, Finished}

-- the last of these records, which are given last first, is the end of a child of make m
abbrev pub EndsChild : Plan → ℕ → List Record → Type 0
EndsChild t m [] = ⊥
EndsChild t m (Open limit keep nodes ∷ rs) = ⊥
EndsChild t m (StartInSlot make child ∷ rs) = ⊥
EndsChild t m (StartWithToken make child token ∷ rs) = ⊥
EndsChild t m (Step job ∷ rs) = ⊥
EndsChild t m (Kill job ∷ rs) = ⊥
EndsChild t m (Halt ∷ rs) = ⊥
EndsChild t m (EndedWell node ∷ rs) = t.make node ≡ m
EndsChild t m (EndedFailed node cause ∷ rs) = t.make node ≡ m
EndsChild t m (PutBack make token ∷ rs) = ⊥
EndsChild t m (Finished failed ∷ rs) = ⊥

-- this record may stand behind those: a token goes back only behind the end of a child of its make
abbrev pub MayFollow : Plan → Record → List Record → Type 0
MayFollow t (Open limit keep nodes) rs = Unit {0}
MayFollow t (StartInSlot make child) rs = Unit {0}
MayFollow t (StartWithToken make child token) rs = Unit {0}
MayFollow t (Step job) rs = Unit {0}
MayFollow t (Kill job) rs = Unit {0}
MayFollow t Halt rs = Unit {0}
MayFollow t (EndedWell node) rs = Unit {0}
MayFollow t (EndedFailed node cause) rs = Unit {0}
MayFollow t (PutBack make token) rs = EndsChild t make rs
MayFollow t (Finished failed) rs = Unit {0}

-- so it is of every record in the list
abbrev pub Returns : Plan → List Record → Type 0
Returns t [] = Unit {0}
Returns t (x ∷ rs) = MayFollow t x rs × Returns t rs

-- a call keeps the tree, and keeps it so
abbrev pub Keeps : {P : Type 0} → Run P → Run P → Type 0
Keeps r r' = (r'.build.plan ≡ r.build.plan) × (Returns r.build.plan r.records → Returns r.build.plan r'.records)

-- every call keeps it so, whatever the pool answers
pub record Returned (P : Type 0) : Type 0 where
  pub opens : (store : Store P) (t : Plan) (keep : Bool) (tokens : ℕ) (p : P) → Returns t (open_run store t keep tokens p).records
  pub steps : (store : Store P) (n : ℕ) (r : Run P) → Keeps r (step_run store n r)
  pub kills : (store : Store P) (n : ℕ) (r : Run P) → Keeps r (kill_run store n r)
  pub polls : (store : Store P) (r : Run P) → Keeps r (poll_run store r)
  pub halts : (store : Store P) (r : Run P) → Keeps r (halt_run store r)
  pub rounds : (store : Store P) (r : Run P) → Keeps r (rounds_run store r)
