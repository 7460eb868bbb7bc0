use Rattle.job_engine.specs.Whole.{SimulatedMay, KnownMay}
use Rattle.job_engine.proofs.Whole.{known_is_simulated, ends_lasting}
use Rattle.job_engine.proofs.laws.lasting_law.Goals as goal

pub returns-clause-simulated : goal.returns-clause-simulated
returns-clause-simulated g c = λ roomy image. ends_lasting roomy image SimulatedMay (λ c old new reply may. may)

pub returns-clause-known : goal.returns-clause-known
returns-clause-known g c = λ roomy image. ends_lasting roomy image KnownMay known_is_simulated
