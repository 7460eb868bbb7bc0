use Rattle.flk_run.proofs.StepLemmas.{blank_known}
use Rattle.flk_run.proofs.laws.blank_board_is_blank.Goals as goal

pub returns : goal.returns
returns c = blank_known
