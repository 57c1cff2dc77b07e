-- The calls of a build, once they are accepted.
use Rattle.std.specs.Prelude.{ℕ, zero, suc, ◌+◌, Bool, true, false, List, [], ◌∷◌, reverse, length, ◌==◌}
use Rattle.rules.specs.Builds.{Build, at, begun_on, finished, in_state, running_jobs, with_node}
use Rattle.rules.specs.Ending.{end_node}
use Rattle.rules.specs.Lists.{if_so}
use Rattle.rules.specs.Plans.{Plan, all_makes}
use Rattle.rules.specs.Settling.{Store, Run, settle}
use Rattle.rules.specs.declared.progress.Progress.{Progress}
use Rattle.rules.specs.declared.progress.State.{State}
use Rattle.rules.specs.declared.progress.State.TheVariants.{Running, Good, Failed}
use Rattle.schedule.specs.Records.{encoded}
use Rattle.schedule.specs.declared.cause.Cause.TheVariants as causes
use Rattle.schedule.specs.declared.record.Record.{Record}
use Rattle.schedule.specs.declared.record.Record.TheVariants.{Open, Step, Kill, Halt}
use Rattle.tree.specs.declared.node.Kind.{Kind}
use Rattle.tree.specs.declared.node.Kind.TheVariants.{Make, Job, Fail}

-- a flag as a field of a record
abbrev pub bit : Bool → ℕ
bit true = 1
bit false = 0

-- one more record
abbrev pub noted : {P : Type 0} → Record → Run P → Run P
noted x r = record { build = r.build; pool = r.pool; records = x ∷ r.records }

-- a change of the build alone
abbrev pub on_build : {P : Type 0} → (Build → Build) → Run P → Run P
on_build f r = record { build = f r.build; pool = r.pool; records = r.records }

-- a fresh build of the tree on a pool with so many tokens in: the top make is live
abbrev pub opening : {P : Type 0} → Plan → Bool → ℕ → P → Run P
opening t keep tokens p = record {
  build = in_state (begun_on t keep) 0 Running;
  pool = p;
  records = Open (tokens + 1) (bit keep) t.nodes ∷ [];
}

-- it is opened, and settles
abbrev pub open_run : {P : Type 0} → Store P → Plan → Bool → ℕ → P → Run P
open_run store t keep tokens p = settle store (opening t keep tokens p)

-- how a job ends after its last step
abbrev pub last_step : Kind → State
last_step Make = Good
last_step Job = Good
last_step Fail = Failed causes.Script

-- one step more is done
abbrev pub stepped : Progress → Progress
stepped x = record { state = x.state; done = x.done + 1; stopped = x.stopped; first_failed = x.first_failed }

-- one step of a running job; with its last one it ends; then the build settles
abbrev pub step_run : {P : Type 0} → Store P → ℕ → Run P → Run P
step_run store n r =
    let one = on_build (λ b. with_node b n (stepped (at b n))) (noted (Step n) r) in
    settle store
    (if_so ((at one.build n).done == one.build.plan.steps n) (λ _. end_node store (last_step (one.build.plan.kind n)) n one) (λ _. one))

-- a running job ends as failed; then the build settles
abbrev pub kill_run : {P : Type 0} → Store P → ℕ → Run P → Run P
kill_run store n r = settle store (end_node store (Failed causes.Kill) n (noted (Kill n) r))

-- the build settles
abbrev pub poll_run : {P : Type 0} → Store P → Run P → Run P
poll_run store r = settle store r

-- a make that starts no further child
abbrev pub stop : Progress → Progress
stop x = record { state = x.state; done = x.done; stopped = true; first_failed = x.first_failed }

-- each of these is stopped
abbrev pub stop_all : List ℕ → Build → Build
stop_all [] b = b
stop_all (m ∷ ms) b = stop_all ms (with_node b m (stop (at b m)))

-- each of these jobs is ended by a halt
abbrev pub end_all : {P : Type 0} → Store P → List ℕ → Run P → Run P
end_all store [] r = r
end_all store (n ∷ ns) r = end_all store ns (end_node store (Failed causes.Halt) n r)

-- every make is stopped, and all running jobs end as failed, in rising number
abbrev pub halt_run : {P : Type 0} → Store P → Run P → Run P
halt_run store r =
    end_all store (running_jobs r.build) (on_build (λ b. stop_all (all_makes b.plan) b) (noted Halt r))

-- one step of each of these jobs
abbrev pub step_each : {P : Type 0} → Store P → List ℕ → Run P → Run P
step_each store [] r = r
step_each store (n ∷ ns) r = step_each store ns (step_run store n r)

-- rounds: in each, the jobs that run at its start are stepped in rising number; at most so many rounds
abbrev pub rounds_by : {P : Type 0} → Store P → ℕ → Run P → Run P
rounds_by store zero r = r
rounds_by store (suc n) r =
    if_so (finished r.build) (λ _. r) (λ _. rounds_by store n (step_each store (running_jobs r.build) r))

-- until the finish: each round takes at least one step
abbrev pub rounds_run : {P : Type 0} → Store P → Run P → Run P
rounds_run store r = rounds_by store r.build.plan.all_steps r

-- how many bytes of the schedule are written
abbrev pub written : {P : Type 0} → Run P → ℕ
written r = length (encoded (reverse r.records))
