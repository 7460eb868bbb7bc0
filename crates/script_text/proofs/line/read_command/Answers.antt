use Rattle.std.proofs.Common.{sym, ap, ◌∙◌, ◌≡◌, length}
use Rattle.std.specs.Prelude.{Err}
use Rattle.std.proofs.lemmas.Result.{err_from_is_err_and}
use Rattle.script_text.specs.Grammar.{row}
use Rattle.script_text.specs.declared.line.LineError.TheVariants.{NoMemory}
use Rattle.script_text.proofs.ArgumentLemmas.{are_of, made, unmade_by, unmade_by_text, late_command}
use Rattle.script_text.proofs.MemoryLemmas.{left_may}
use Rattle.script_text.proofs.ReadingLemmas.{fitting, no_fewer, found_for}
use Rattle.script_text.proofs.line.read_command.Goals as goal

pub read_arguments-requires-clause-counted : goal.read_arguments-requires-clause-counted
read_arguments-requires-clause-counted c =
    let fit = fitting c.args.word.now (length c.args.words) c.in-Ok.command (sym c.in-Ok.ensures) in
    rw c.row.ensures.kinds (no_fewer _ _ _ fit.1)

pub returns-in_err-arguments-clause-exact : goal.returns-in_err-arguments-clause-exact
returns-in_err-arguments-clause-exact c =
    let p = err_from_is_err_and c.from_residual.result c.from_residual.ensures.1 in
    let bad = rw c.row.ensures.kinds at c.in_err-arguments.ensures.exact in
    rw (p.1, p.2) (unmade_by c.args.word.now c.in-Ok.command c.args.words
    (sym c.in-Ok.ensures) c.in_err-arguments.field-0.0 bad)

pub returns-in_err-arguments-clause-late : goal.returns-in_err-arguments-clause-late
returns-in_err-arguments-clause-late c out =
    late_command c.args.word.now c.in-Ok.command c.args.words (sym c.in-Ok.ensures)

pub returns-in_err-arguments-clause-asked : goal.returns-in_err-arguments-clause-asked
returns-in_err-arguments-clause-asked c out =
    let p = err_from_is_err_and c.from_residual.result c.from_residual.ensures.1 in
    let same : c.in_err-arguments.field-0.0 ≡ NoMemory = cc (p.1, p.2, out) in
    let known = found_for c.args.word.now (length c.args.words) c.in-Ok.command (sym c.in-Ok.ensures) in
    let kept = rw c.row.ensures.kinds at c.in_err-arguments.ensures.kept in
    rw known (kept (ap (λ e. Err e) same))

pub returns-in_err-texts-clause-exact : goal.returns-in_err-texts-clause-exact
returns-in_err-texts-clause-exact c =
    let p = err_from_is_err_and c.from_residual-in_err-texts.result c.from_residual-in_err-texts.ensures.1 in
    let read = rw c.row.ensures.kinds at c.in_ok-arguments.ensures.exact in
    let left = rw c.row.ensures.kinds at c.in_ok-arguments.ensures.rest in
    let bad = rw left at c.in_err-texts.ensures.exact in
    rw (p.1, p.2) (unmade_by_text c.args.word.now c.in-Ok.command c.args.words
    (sym c.in-Ok.ensures) c.in_ok-arguments.arguments read c.in_err-texts.field-0.0 bad)

pub returns-in_err-texts-clause-late : goal.returns-in_err-texts-clause-late
returns-in_err-texts-clause-late c out =
    late_command c.args.word.now c.in-Ok.command c.args.words (sym c.in-Ok.ensures)

pub returns-in_err-texts-clause-asked : goal.returns-in_err-texts-clause-asked
returns-in_err-texts-clause-asked c out =
    let p = err_from_is_err_and c.from_residual-in_err-texts.result c.from_residual-in_err-texts.ensures.1 in
    let same : c.in_err-texts.field-0.0 ≡ NoMemory = cc (p.1, p.2, out) in
    let left = rw c.row.ensures.kinds at c.in_ok-arguments.ensures.rest in
    let some = c.in_err-texts.ensures.kept (ap (λ e. Err e) same) in
    let known = found_for c.args.word.now (length c.args.words) c.in-Ok.command (sym c.in-Ok.ensures) in
    let fit = fitting c.args.word.now (length c.args.words) c.in-Ok.command (sym c.in-Ok.ensures) in
    rw known (left_may c.in-Ok.command c.args.words fit.1 (λ none. some (left ∙ none)))

pub event_of-requires : goal.event_of-requires
event_of-requires c =
    let read = rw c.row.ensures.kinds at c.in_ok-arguments.ensures.exact in
    are_of (row c.in-Ok.command).kinds c.args.words c.in_ok-arguments.arguments read

pub returns-clause-exact : goal.returns-clause-exact
returns-clause-exact c =
    let read = rw c.row.ensures.kinds at c.in_ok-arguments.ensures.exact in
    let left = rw c.row.ensures.kinds at c.in_ok-arguments.ensures.rest in
    let more = rw left at c.in_ok-texts.ensures.exact in
    made c.args.word.now c.in-Ok.command c.args.words
    (sym c.in-Ok.ensures) c.in_ok-arguments.arguments read c.in_ok-texts.texts _ more c.event_of.ensures
