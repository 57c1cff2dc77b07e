use Rattle.std.proofs.Common.{rules, tests, arith}
use Rattle.build.proofs.Chains.{made_from}
use Rattle.build.proofs.work.Work.jobs_now.Goals as goal
use Rattle.build.specs.Models.{model}
use Rattle.build.specs.Turns.{runs_as_job}

pub returns : goal.returns
returns c = λ k d less. made_from (runs_as_job (model c.args.self.now)) _ c.from_fn.result 0 200 c.from_fn.ensures.items.each (λ x t q small called. search (rules, tests)) k d (omega arith) (omega arith)
