use Rattle.flk_run.proofs.AgreementLemmas.{event_compares, event_alike, transcript_alike, platform_alike}
use Rattle.flk_run.proofs.laws.scripts_by_lists.Goals as goal

pub returns-clause-compares : goal.returns-clause-compares
returns-clause-compares c = λ w fuse request none. event_compares w fuse request none

pub returns-clause-event : goal.returns-clause-event
returns-clause-event c = λ request p nothing. event_alike request p nothing

pub returns-clause-transcript : goal.returns-clause-transcript
returns-clause-transcript c = λ n requests p nothing. transcript_alike n requests p nothing

pub returns-clause-platform : goal.returns-clause-platform
returns-clause-platform c = λ requests p nothing. platform_alike requests p nothing
