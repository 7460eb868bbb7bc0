use Rattle.flk_run.proofs.AgreementLemmas.{fair_transcript, fair_platform}
use Rattle.flk_run.proofs.laws.fair_scripts_agree.Goals as goal

pub returns-clause-transcript : goal.returns-clause-transcript
returns-clause-transcript c = λ n requests p ledger noted fair. fair_transcript n requests p ledger noted fair

pub returns-clause-platform : goal.returns-clause-platform
returns-clause-platform c = λ requests p ledger noted fair. fair_platform requests p ledger noted fair
