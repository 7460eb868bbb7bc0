use Rattle.std.proofs.Common.{refl, sym, ◌∙◌}
use Rattle.std.specs.FinMap.{empty}
use Rattle.seal_device.specs.Digests.{digests}
use Rattle.flk_base.specs.Streams.{intake, output}
use Rattle.std.specs.Prelude.{[]}
use Rattle.machine_memory.specs.HostMemory.{is_untaken}
use Rattle.flk_run.specs.Parts.{platform_of, known_if}
use Rattle.flicker_cli.proofs.CallLemmas.{no_room, no_names}
use Rattle.flicker_cli.proofs.top.carry_out.Goals as goal

pub returns-then-is_err-clause-ran : goal.returns-then-is_err-clause-ran
returns-then-is_err-clause-ran g c =
    let left = c.as_it_was-then-is_err.ensures in
    rw (sym c.command_of.ensures ∙ c.in-Some.is, left.end, left.board, left.disk, left.spans)
    (no_room digests c.in-Some.command (intake g.S.Source c.args.source.now c.args.source.now) (output g.K.Sink c.args.out.now c.args.out.now) (known_if (is_untaken c.args.board.memory) (platform_of c.args.board [] c.args.disk empty)) (no_names (is_untaken c.args.board.memory) c.args.board c.args.disk) refl refl)
