use Rattle.std.proofs.Common.{sym, ◌∙◌}
use Rattle.late_launch.specs.Boards.{fused_device}
use Rattle.slb_core.specs.JobInputs.{Asked, job_inputs}
use Rattle.job_engine.specs.Runs.{job_nonce}
use Rattle.job_engine.proofs.Sessions.{outputs_did, outputs_kept, kept_by}
use Rattle.job_engine.proofs.parts.outputs_in.Goals as goal

pub returns-in-Ok-outputs_told-clause-did : goal.returns-in-Ok-outputs_told-clause-did
returns-in-Ok-outputs_told-clause-did c =
    outputs_did c.args.mode c.args.image.now (job_inputs (record { mode = c.args.mode; blob = c.args.blob.now; own = c.args.own.now })) c.args.board c.in-Ok.both.0 c.in-Ok.both.1 c.in-Ok-outputs_told.count c.run_mode.new.out
    (rw c.in-Ok.is at c.run_mode.ensures) (sym c.outputs_told.ensures ∙ c.in-Ok-outputs_told.is)

pub returns-in-Ok-outputs_told-clause-kept : goal.returns-in-Ok-outputs_told-clause-kept
returns-in-Ok-outputs_told-clause-kept c = λ runs.
    let asked : Asked = record { mode = c.args.mode; blob = c.args.blob.now; own = c.args.own.now } in
    outputs_kept c.args.mode c.args.image.now (job_inputs asked) c.args.board c.in-Ok.both.0 c.in-Ok.both.1 c.in-Ok-outputs_told.count c.run_mode.new.out
    (rw c.in-Ok.is at c.run_mode.ensures) (sym c.outputs_told.ensures ∙ c.in-Ok-outputs_told.is)
    (kept_by c.args.image.now job_nonce asked c.requires.image (record { short = c.requires.short; may = c.requires.blob }) runs (fused_device c.args.board))
