use Rattle.std.proofs.Common.{inl, refl}
use Rattle.flk_base.specs.Streams.{intake, output}
use Rattle.flk_base.specs.declared.run_end.RunEnd.TheVariants.{NoMemory}
use Rattle.flk_run.specs.Parts.{platform}
use Rattle.flk_run.proofs.AgreementLemmas.{ran_twice}
use Rattle.flk_run.proofs.run.run_script.Goals as goal

pub returns-in-Ok-clause-ran : goal.returns-in-Ok-clause-ran
returns-in-Ok-clause-ran g c =
    ran_twice c.run_lines.result.1 (intake g.S.Source c.args.source.now c.run_lines.new.source)
    (output g.K.Sink c.args.out.now c.run_lines.new.out) (platform c.args.runner)
    (platform c.run_lines.result.0) c.run_lines.ensures.ran

pub returns-in-Err-clause-ran : goal.returns-in-Err-clause-ran
returns-in-Err-clause-ran g c =
    ran_twice NoMemory (intake g.S.Source c.args.source.now c.args.source.now)
    (output g.K.Sink c.args.out.now c.args.out.now) (platform c.args.runner)
    (platform c.args.runner) (inl (refl, record { unwritten = refl; kept = refl }))
