use Rattle.session_driver.proofs.Quiet.{ends_quietly, answers_quietly}
use Rattle.session_driver.proofs.laws.quiet_session_law.Goals as goal

pub returns-clause-plan : goal.returns-clause-plan
returns-clause-plan c = ends_quietly

pub returns-clause-answer : goal.returns-clause-answer
returns-clause-answer c = answers_quietly
