use Rattle.std.proofs.Common.{refl, ap, ◌∙◌}
use Rattle.std.specs.Prelude.{Err}
use Rattle.flk_run.specs.Parts.{platform}
use Rattle.flk_run.proofs.RunLemmas.{line_of_event, may_run_out_line}
use Rattle.flk_run.proofs.run.run_line.Goals as goal

pub returns-in-Ok-clause-ran : goal.returns-in-Ok-clause-ran
returns-in-Ok-clause-ran g c =
    line_of_event c.run_event.result.1 c.args.number c.args.line.now _ _ _ (platform c.args.runner)
    (platform c.run_event.result.0) c.requires c.in-Ok.ensures.exact
    (c.run_event.ensures.ran c.args.line.now)

pub returns-in-Err-NoMemory-clause-ran : goal.returns-in-Err-NoMemory-clause-ran
returns-in-Err-NoMemory-clause-ran g c =
    let want = c.in-Err-NoMemory.is ∙ ap (λ x. Err x) c.in-Err-NoMemory.field-0-is in (
      may_run_out_line c.args.number c.args.line.now c.requires
          (λ blank. let e = c.read_line.ensures.blank blank in absurd (cc (e, want)))
          (λ f early bad. let e = c.read_line.ensures.early f early bad in absurd (cc (e, want)))
          (λ plain. c.read_line.ensures.unasked plain want),
      record { unwritten = refl; kept = refl },
    )
