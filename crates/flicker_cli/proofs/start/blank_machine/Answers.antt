use Rattle.std.proofs.Common.{[]}
use Rattle.job_store.specs.Simulated.{blank_failing}
use Rattle.flk_run.proofs.StepLemmas.{blank_known}
use Rattle.flicker_cli.proofs.start.blank_machine.Goals as goal

pub returns-in-Ok-blank-clause-blank : goal.returns-in-Ok-blank-clause-blank
returns-in-Ok-blank-clause-blank c = rw (c.in-Ok.ensures, c.in-Ok-blank.ensures) (blank_known (blank_failing []))
