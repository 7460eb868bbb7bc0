use Rattle.flk_run.proofs.AgreementLemmas.{one_plan_platform, one_plan_transcript}
use Rattle.flk_run.proofs.laws.script_is_one_plan.Goals as goal

pub returns-clause-platform : goal.returns-clause-platform
returns-clause-platform g c = λ R requests p. one_plan_platform R requests p

pub returns-clause-transcript : goal.returns-clause-transcript
returns-clause-transcript g c = λ R n requests p. one_plan_transcript R n requests p
