use Rattle.std.proofs.Common.{subst}
use Rattle.std.specs.Prelude.{Option, Some, [], map, string_bytes}
use Rattle.std.specs.FinMap.{empty}
use Rattle.seal_device.specs.Digests.{digests}
use Rattle.flk_base.specs.Streams.{intake, output}
use Rattle.machine_memory.specs.HostMemory.{is_untaken}
use Rattle.flk_run.specs.Parts.{platform_of, known_if}
use Rattle.flicker_cli.specs.declared.words.Command.{Command}
use Rattle.flicker_cli.specs.Calls.{CallRan}
use Rattle.flicker_cli.specs.Commands.{command}
use Rattle.flicker_cli.proofs.CallLemmas.{text_of, complete_call, denied_call, answered_twice}
use Rattle.flicker_cli.proofs.top.flicker.Goals as goal

pub returns-clause-answered : goal.returns-clause-answered
returns-clause-answered g c =
    let did = c.carry_out-end in
    answered_twice (command (map string_bytes c.args.words.now)) c.status_after.result (intake g.S.Source c.args.source.now did.new.source) (output g.K.Sink c.args.out.now did.new.out) (output g.E.Sink c.args.err.now c.report-cut.new.err)
    (known_if (is_untaken c.args.board.memory) (platform_of c.args.board [] c.args.disk empty))
    (known_if (is_untaken c.args.board.memory) (platform_of did.result.board did.result.spans did.result.disk empty))
    (record { end = did.result.end; cut = c.report-cut.result; ran = did.ensures.ran; caused = did.ensures.caused; reported = c.report-cut.ensures; answer = c.status_after.ensures })

pub returns-clause-text : goal.returns-clause-text
returns-clause-text g c few =
    let did = c.carry_out-end in
    text_of digests (intake g.S.Source c.args.source.now did.new.source) (output g.K.Sink c.args.out.now did.new.out) (output g.E.Sink c.args.err.now c.report-cut.new.err) _ _ _ c.status_after.result
    (record { end = did.result.end; cut = c.report-cut.result; ran = did.ensures.ran; caused = did.ensures.caused; reported = c.report-cut.ensures; answer = c.status_after.ensures }) few

pub returns-clause-complete : goal.returns-clause-complete
returns-clause-complete g c task is content known =
    let did = c.carry_out-end in
    let source = intake g.S.Source c.args.source.now did.new.source in
    let out = output g.K.Sink c.args.out.now did.new.out in
    let old = known_if (is_untaken c.args.board.memory) (platform_of c.args.board [] c.args.disk empty) in
    let new = known_if (is_untaken c.args.board.memory) (platform_of did.result.board did.result.spans did.result.disk empty) in
    let ran = subst (λ (t : Option Command). CallRan digests t did.result.end source out old new) is did.ensures.ran in
    rw c.status_after.ensures
    (complete_call digests source out (output g.E.Sink c.args.err.now c.report-cut.new.err) old new (Some task) content did.result.end c.report-cut.result ran did.ensures.caused c.report-cut.ensures known)

pub returns-clause-denied : goal.returns-clause-denied
returns-clause-denied g c six =
    let did = c.carry_out-end in
    denied_call digests (intake g.S.Source c.args.source.now did.new.source) (output g.K.Sink c.args.out.now did.new.out) (output g.E.Sink c.args.err.now c.report-cut.new.err) _ _ _ c.status_after.result
    (record { end = did.result.end; cut = c.report-cut.result; ran = did.ensures.ran; caused = did.ensures.caused; reported = c.report-cut.ensures; answer = c.status_after.ensures }) six
