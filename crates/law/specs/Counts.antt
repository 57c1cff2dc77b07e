-- What is counted from calls and records alone.
use Rattle.std.specs.Prelude.{ℕ, ◌+◌, ◌-◌, Bool, true, false, cond, not, ◌&&◌, List, [], ◌∷◌, ◌++◌, reverse, Some, None, Ok, Err, Option, ◌==◌}
use Rattle.law.specs.Calls.{Request, step, kill, poll, halt}
use Rattle.law.specs.Traces.{Event, opened, called, loaded, obtained, released}
use Rattle.pool.specs.Meaning.{only, sum_below, total}
use Rattle.rules.specs.Plans.{Plan, is_make}
use Rattle.schedule.specs.declared.record.Record.{Record}
use Rattle.schedule.specs.declared.record.Record.TheVariants.{Open, StartInSlot, StartWithToken, Step, Kill, Halt, EndedWell, EndedFailed, PutBack, Finished}

-- 1 if so, else 0
abbrev pub one_if : Bool → ℕ
one_if t = cond t 1 0

-- whether the record is the taking of a token k by make m
abbrev pub takes : ℕ → ℕ → Record → Bool
takes m k (Open limit keep nodes) = false
takes m k (StartInSlot make child) = false
takes m k (StartWithToken make child token) = make == m && token == k
takes m k (Step job) = false
takes m k (Kill job) = false
takes m k Halt = false
takes m k (EndedWell node) = false
takes m k (EndedFailed node cause) = false
takes m k (PutBack make token) = false
takes m k (Finished failed) = false

-- whether it is the return of a token k by make m
abbrev pub returns : ℕ → ℕ → Record → Bool
returns m k (Open limit keep nodes) = false
returns m k (StartInSlot make child) = false
returns m k (StartWithToken make child token) = false
returns m k (Step job) = false
returns m k (Kill job) = false
returns m k Halt = false
returns m k (EndedWell node) = false
returns m k (EndedFailed node cause) = false
returns m k (PutBack make token) = make == m && token == k
returns m k (Finished failed) = false

-- whether it starts node n
abbrev pub begins : ℕ → Record → Bool
begins n (Open limit keep nodes) = false
begins n (StartInSlot make child) = child == n
begins n (StartWithToken make child token) = child == n
begins n (Step job) = false
begins n (Kill job) = false
begins n Halt = false
begins n (EndedWell node) = false
begins n (EndedFailed node cause) = false
begins n (PutBack make token) = false
begins n (Finished failed) = false

-- whether it ends node n well
abbrev pub ends_well : ℕ → Record → Bool
ends_well n (Open limit keep nodes) = false
ends_well n (StartInSlot make child) = false
ends_well n (StartWithToken make child token) = false
ends_well n (Step job) = false
ends_well n (Kill job) = false
ends_well n Halt = false
ends_well n (EndedWell node) = node == n
ends_well n (EndedFailed node cause) = false
ends_well n (PutBack make token) = false
ends_well n (Finished failed) = false

-- whether it ends node n as failed
abbrev pub ends_failed : ℕ → Record → Bool
ends_failed n (Open limit keep nodes) = false
ends_failed n (StartInSlot make child) = false
ends_failed n (StartWithToken make child token) = false
ends_failed n (Step job) = false
ends_failed n (Kill job) = false
ends_failed n Halt = false
ends_failed n (EndedWell node) = false
ends_failed n (EndedFailed node cause) = node == n
ends_failed n (PutBack make token) = false
ends_failed n (Finished failed) = false

-- how many pass the test
abbrev pub how_many : {A : Type 0} → (A → Bool) → List A → ℕ
how_many p [] = 0
how_many p (x ∷ xs) = one_if (p x) + how_many p xs

-- how many tokens k make m holds: those that it took less those that it returned
abbrev pub holds : ℕ → ℕ → List Record → ℕ
holds m k rs = how_many (takes m k) rs - how_many (returns m k) rs

-- how many tokens k all makes of the tree hold
abbrev pub makes_hold : Plan → ℕ → List Record → ℕ
makes_hold t k rs = sum_below (λ m. holds m k rs) t.nodes

-- how many tokens they hold in all
abbrev pub all_held : Plan → List Record → ℕ
all_held t rs = total (λ k. makes_hold t k rs)

-- whether node n runs: from its start to its end; the records are given last first
abbrev pub runs : ℕ → List Record → Bool
runs n [] = false
runs n (x ∷ rs) = cond (begins n x) true (cond (ends_well n x) false (cond (ends_failed n x) false (runs n rs)))

-- how many jobs run
abbrev pub jobs_running : Plan → List Record → ℕ
jobs_running t rs = sum_below (λ n. one_if (runs n rs && not (is_make t n))) t.nodes

-- how the build finished, if it did: what its last record of a finish says
abbrev pub finish_of : List Record → Option ℕ
finish_of [] = None
finish_of (Open limit keep nodes ∷ rs) = finish_of rs
finish_of (StartInSlot make child ∷ rs) = finish_of rs
finish_of (StartWithToken make child token ∷ rs) = finish_of rs
finish_of (Step job ∷ rs) = finish_of rs
finish_of (Kill job ∷ rs) = finish_of rs
finish_of (Halt ∷ rs) = finish_of rs
finish_of (EndedWell node ∷ rs) = finish_of rs
finish_of (EndedFailed node cause ∷ rs) = finish_of rs
finish_of (PutBack make token ∷ rs) = finish_of rs
finish_of (Finished failed ∷ rs) = Some failed

-- the records of all calls, the last one first
abbrev pub records_of : List Event → List Record
records_of [] = []
records_of (opened new ∷ es) = reverse new ++ records_of es
records_of (called c r new ∷ es) = reverse new ++ records_of es
records_of (loaded x r ∷ es) = records_of es
records_of (obtained g ∷ es) = records_of es
records_of (released g r ∷ es) = records_of es

-- whether the request is a step of job n
abbrev pub is_step_of : ℕ → Request → Bool
is_step_of n (step k) = k == n
is_step_of n (kill k) = false
is_step_of n poll = false
is_step_of n halt = false

-- whether it is a step or a kill
abbrev pub works : Request → Bool
works (step n) = true
works (kill n) = true
works poll = false
works halt = false

-- how many accepted calls passed the test
abbrev pub accepted : (Request → Bool) → List Event → ℕ
accepted p [] = 0
accepted p (opened new ∷ es) = accepted p es
accepted p (called c (Ok n) new ∷ es) = one_if (p c) + accepted p es
accepted p (called c (Err e) new ∷ es) = accepted p es
accepted p (loaded x r ∷ es) = accepted p es
accepted p (obtained g ∷ es) = accepted p es
accepted p (released g r ∷ es) = accepted p es

-- how many tokens k tools obtained
abbrev pub got : ℕ → List Event → ℕ
got k [] = 0
got k (opened new ∷ es) = got k es
got k (called c r new ∷ es) = got k es
got k (loaded x r ∷ es) = got k es
got k (obtained None ∷ es) = got k es
got k (obtained (Some g) ∷ es) = only g.byte 1 k + got k es
got k (released g r ∷ es) = got k es

-- how many they released
abbrev pub gave_back : ℕ → List Event → ℕ
gave_back k [] = 0
gave_back k (opened new ∷ es) = gave_back k es
gave_back k (called c r new ∷ es) = gave_back k es
gave_back k (loaded x r ∷ es) = gave_back k es
gave_back k (obtained g ∷ es) = gave_back k es
gave_back k (released g (Ok _) ∷ es) = only g.byte 1 k + gave_back k es
gave_back k (released g (Err e) ∷ es) = gave_back k es

-- how many tokens k tools hold
abbrev pub tools_hold : ℕ → List Event → ℕ
tools_hold k es = got k es - gave_back k es

-- how many tokens they hold in all
abbrev pub tools_held : List Event → ℕ
tools_held es = total (λ k. tools_hold k es)
