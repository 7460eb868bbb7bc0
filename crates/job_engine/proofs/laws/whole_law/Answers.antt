use Rattle.job_engine.specs.Whole.{SimulatedMay, KnownMay}
use Rattle.job_engine.proofs.Whole.{known_is_simulated, ends_whole}
use Rattle.job_engine.proofs.laws.whole_law.Goals as goal

pub returns-clause-simulated : goal.returns-clause-simulated
returns-clause-simulated g c = λ roomy image. ends_whole roomy image SimulatedMay (λ c old new reply may. may)

pub returns-clause-known : goal.returns-clause-known
returns-clause-known g c = λ roomy image. ends_whole roomy image KnownMay known_is_simulated
