use Rattle.seal_device.proofs.Plans.{clean_plan, clean_digested}
use Rattle.seal_device.proofs.laws.clean_runs_agree.Goals as goal

pub returns-clause-fair : goal.returns-clause-fair
returns-clause-fair g c = λ plan before clean unforged. clean_plan plan before clean unforged

pub returns-clause-agrees : goal.returns-clause-agrees
returns-clause-agrees g c = λ plan fuse clean unforged. clean_digested plan fuse clean unforged
