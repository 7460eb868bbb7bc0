use Rattle.seal_device.proofs.Known.{stays_noted, known_after, blank_noted}
use Rattle.seal_device.proofs.Plans.{plan_noted}
use Rattle.seal_device.proofs.laws.ledger_has_what_is_known.Goals as goal

pub returns-clause-command : goal.returns-clause-command
returns-clause-command g c = λ command d ledger known. stays_noted command d ledger known

pub returns-clause-plan : goal.returns-clause-plan
returns-clause-plan g c = λ plan before known. plan_noted plan before known

pub returns-clause-only : goal.returns-clause-only
returns-clause-only g c = λ command d count other. known_after command d count other

pub returns-clause-blank : goal.returns-clause-blank
returns-clause-blank g c = blank_noted
