use Rattle.law.proofs.Sounding.{of_any_build}
use Rattle.law.proofs.laws.every_build.Goals as goal

pub returns : goal.returns
returns g c = record { law = of_any_build g.P.Lender.ways }
