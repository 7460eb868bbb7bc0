use Rattle.flk_base.specs.StopLaws.{throughout-limited}
use Rattle.seal_device.specs.Commands.{costs}
use Rattle.seal_device.specs.Digests.{digests}
use Rattle.seal_device.specs.Ledger.{noted, Fair}
use Rattle.seal_device.proofs.Plans.{fair_plan, fair_digested, fair_nothing}
use Rattle.seal_device.proofs.laws.fair_plans_agree.Goals as goal

pub returns-clause-ledgers : goal.returns-clause-ledgers
returns-clause-ledgers g c = λ plan fuse w v fair agree. fair_plan plan fuse w v fair agree

pub returns-clause-devices : goal.returns-clause-devices
returns-clause-devices g c =
    λ plan before ledger fair known. fair_digested plan before ledger fair known

pub returns-clause-whole : goal.returns-clause-whole
returns-clause-whole g c =
    λ plan fuse v fair. throughout-limited costs (noted digests) (Fair digests) plan fuse v fair

pub returns-clause-nothing : goal.returns-clause-nothing
returns-clause-nothing g c = λ plan v nothing. fair_nothing plan v nothing
