-- One step of a job, and the end that its last step brings.
use Rattle.std.specs.Prelude.{◌≡◌, ℕ, ◌≤◌, List, ◌==◌}
use Rattle.rules.specs.Builds.{Build, at, with_node}
use Rattle.rules.specs.Calls.{noted, on_build, stepped, last_step}
use Rattle.rules.specs.Ending.{end_node}
use Rattle.rules.specs.Lists.{if_so}
use Rattle.rules.specs.Settling.{Store, Run}
use Rattle.schedule.specs.Buffers.{Wrote}
use Rattle.schedule.specs.Records.{bytes}
use Rattle.schedule.specs.declared.record.Record.TheVariants.{Step}
use Rattle.build.specs.Changes.{reach}
use Rattle.build.specs.Models.{model}
use Rattle.build.specs.declared.work.Work.{Work}

-- the build in which job n has done one step more
abbrev pub stepped_build : ℕ → Build → Build
stepped_build n b = with_node b n (stepped (at b n))

-- a step of job n before the build settles: with its last one it ends
abbrev pub worked : {P : Type 0} → Store P → ℕ → Run P → Run P
worked store n r =
    let one = on_build (λ b. with_node b n (stepped (at b n))) (noted (Step n) r) in
    if_so ((at one.build n).done == one.build.plan.steps n) (λ _. end_node store (last_step (one.build.plan.kind n)) n one) (λ _. one)

-- job n has done one step more, with its record; it may have none left
pub record Stepped (n : ℕ) (e : Work) (old : List ℕ) (e' : Work) (new : List ℕ) : Type 0 where
  pub build : model e' ≡ stepped_build n (model e)
  pub wrote : Wrote old e.written (bytes (Step n)) new e'.written
  pub done : (at (model e') n).done ≤ (model e').plan.steps n
  pub spent : reach e' ≤ reach e
