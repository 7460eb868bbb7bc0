use Rattle.job_store.proofs.Outcomes.{cycle-sync}
use Rattle.job_store.proofs.Cycles.{clean-place, kept-cycle}
use Rattle.job_store.proofs.laws.power_law.Goals as goal

pub returns-clause-synced : goal.returns-clause-synced
returns-clause-synced c = λ disk keep fill size. cycle-sync disk keep fill size

pub returns-clause-clean : goal.returns-clause-clean
returns-clause-clean c = λ disk keep place fill size clean.
    clean-place disk keep place fill size clean

pub returns-clause-kept : goal.returns-clause-kept
returns-clause-kept c = λ disk keep fill size sound all. kept-cycle disk keep fill size sound all
