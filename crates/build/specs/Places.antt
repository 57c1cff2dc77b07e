-- What a build stands for, whole.
use Rattle.build.specs.Models.{model, status}
use Rattle.build.specs.declared.state.Build.{Build as BuildOf}
use Rattle.law.specs.Calls.{Status}
use Rattle.rules.specs.Builds.{Build}

-- the build of the rules, with how much of its schedule is written
abbrev pub place : BuildOf → Status
place b = status b.work

-- the build of the rules alone
abbrev pub build_of : BuildOf → Build
build_of b = model b.work
