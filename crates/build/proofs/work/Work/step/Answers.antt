use Rattle.std.proofs.Common.{sym, ◌∙◌}
use Rattle.build.proofs.work.Work.step.Goals as goal

pub step_on-requires : goal.step_on-requires
step_on-requires g c = record { free = sym c.in_ok-check_job.ensures; going = c.requires.going; within = c.requires.within }

pub returns : goal.returns
returns g c =
    let after = c.step_on.ensures.after in
    record { after = (after.0, after.1, c.count_running.ensures ∙ after.2); unaltered = tt }
