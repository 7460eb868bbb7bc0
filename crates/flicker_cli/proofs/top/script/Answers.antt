use Rattle.std.proofs.Common.{ap, ◌∙◌}
use Rattle.machine_memory.specs.HostMemory.{is_untaken}
use Rattle.flk_run.specs.Parts.{Experiment, platform}
use Rattle.flk_base.specs.Streams.{intake, output}
use Rattle.flicker_cli.proofs.CallLemmas.{names_given_up}
use Rattle.flicker_cli.proofs.top.script.Goals as goal

pub returns-clause-ran : goal.returns-clause-ran
returns-clause-ran g c =
    let source = intake g.S.Source c.args.source.now c.run_script-runner.new.source in
    let out = output g.K.Sink c.args.out.now c.run_script-runner.new.out in
    let new = c.run_script-runner.result.0 in
    record {
      how = c.run_script-runner.result.1;
      is = c.of_script.ensures;
      reached = platform new;
      ran = rw c.new.ensures at c.run_script-runner.ensures.ran.digests;
      left = rw (c.finish-board.ensures.board, c.finish-board.ensures.disk, c.finish-board.ensures.spans) (names_given_up (is_untaken c.args.board.memory) new (c.run_script-runner.ensures.untaken ∙ ap (λ (e : Experiment). e.untaken) c.new.ensures));
    }
