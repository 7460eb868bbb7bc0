use Rattle.seal_device.proofs.Alike.{alike}
use Rattle.seal_device.proofs.Plans.{digested_plan}
use Rattle.seal_device.proofs.laws.digested_is_a_homomorphism.Goals as goal

pub returns-clause-command : goal.returns-clause-command
returns-clause-command g c = λ command d nothing. alike command d nothing

pub returns-clause-plan : goal.returns-clause-plan
returns-clause-plan g c = λ plan before nothing. digested_plan plan before nothing
