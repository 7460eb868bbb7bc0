use Rattle.std.proofs.Common.{ap, sym, ◌∙◌}
use Rattle.std.specs.Prelude.{◌==◌, length}
use Rattle.script_text.specs.Seen.{request_of}
use Rattle.flk_run.specs.Parts.{platform}
use Rattle.flk_run.proofs.RunLemmas.{quiet_event}
use Rattle.flk_run.proofs.run.run_event.Goals as goal

pub returns-then-is_empty-clause-ran : goal.returns-then-is_empty-clause-ran
returns-then-is_empty-clause-ran g c text =
    quiet_event c.args.number (request_of c.args.event.now) (g.K.Sink.contents c.args.out.now) _ _
    (platform c.args.runner) (platform c.step-runner.result.0) c.new-answer.ensures
    (sym c.if-is_empty.true ∙ c.is_empty.ensures ∙ ap (λ b. length b == 0) c.as_slice.ensures)
    (c.step-runner.ensures.written c.in-Done.is) (c.step-runner.ensures.stepped c.in-Done.is)
