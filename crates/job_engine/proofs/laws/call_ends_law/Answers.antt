use Rattle.job_store.specs.Commands.{MayReply}
use Rattle.job_engine.specs.Calls.{births_told, steps_told, finds_told}
use Rattle.job_engine.specs.Ends.{ends_birth, ends_step, ends_recovery, IsOneOf}
use Rattle.job_engine.proofs.Returns.{may_only, births_end, steps_end, finds_end}
use Rattle.job_engine.proofs.laws.call_ends_law.Goals as goal

pub returns-clause-births : goal.returns-clause-births
returns-clause-births g c = λ roomy image j inputs old new over ends.
    may_only (MayReply g.D.Disk.contents g.D.Disk.fault_count g.D.Disk.call_gives) roomy image (IsOneOf ends_birth) (births_told j inputs) old new over (births_end j inputs) ends

pub returns-clause-steps : goal.returns-clause-steps
returns-clause-steps g c = λ roomy image inputs j old new over ends.
    may_only (MayReply g.D.Disk.contents g.D.Disk.fault_count g.D.Disk.call_gives) roomy image (IsOneOf ends_step) (steps_told inputs j) old new over (steps_end inputs j) ends

pub returns-clause-finds : goal.returns-clause-finds
returns-clause-finds g c = λ roomy image j old new over ends.
    may_only (MayReply g.D.Disk.contents g.D.Disk.fault_count g.D.Disk.call_gives) roomy image (IsOneOf ends_recovery) (finds_told j) old new over (finds_end j) ends
