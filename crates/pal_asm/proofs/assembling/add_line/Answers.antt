use Rattle.std.proofs.Common.{refl, sym, ap, ◌∙◌, subst}
use Rattle.std.specs.Prelude.{IsOk}
use Rattle.std.proofs.lemmas.Result.{err_from_is_err_and}
use Rattle.flk_base.specs.Checks.{◌>>=◌}
use Rattle.pal_asm.specs.Tokens.{tokens}
use Rattle.pal_asm.specs.Assembling.{line_alone, sized_line, statement_in}
use Rattle.pal_asm.specs.SeenStatements.{word_view}
use Rattle.pal_asm.specs.SeenDraft.{Adds}
use Rattle.pal_asm.proofs.AssembleLemmas.{at_statement, refused_first, of_line, alone_is, memory_ran_out, if_memory_ran_out}
use Rattle.pal_asm.proofs.assembling.add_line.Goals as goal

pub returns-clause-added : goal.returns-clause-added
returns-clause-added c = λ before s.
    let d = sym (c.defines.ensures before s) ∙ c.if-defines.false in
    let e = at_statement before c.args.text.now (c.in-Ok.label.0, tokens c.in-Ok.label.1.now)
    (word_view c.in-Ok-word_in.word)
    c.in-Ok.ensures c.in-Ok-word_in.ensures d in
    let f = e ∙ ap (λ r. r >>= λ statement. sized_line before c.in-Ok.label.0 statement)
    c.in_ok-statement.ensures.statement in
    subst (λ r. Adds c.args.number before c.add.new.self r c.add.result) (sym f)
    (c.add.ensures before s d)

pub returns-clause-alone : goal.returns-clause-alone
returns-clause-alone c =
    let e = alone_is c.args.text.now (c.in-Ok.label.0, tokens c.in-Ok.label.1.now)
    (word_view c.in-Ok-word_in.word) c.in-Ok.ensures c.in-Ok-word_in.ensures in
    if_memory_ran_out c.add.result (IsOk (line_alone (tokens c.args.text.now)))
    (rw (e, c.in_ok-statement.ensures.statement) refl)

pub returns-in_err-statement-clause-added : goal.returns-in_err-statement-clause-added
returns-in_err-statement-clause-added c = λ before s.
    let d = sym (c.defines.ensures before s) ∙ c.if-defines.false in
    let e = at_statement before c.args.text.now (c.in-Ok.label.0, tokens c.in-Ok.label.1.now)
    (word_view c.in-Ok-word_in.word)
    c.in-Ok.ensures c.in-Ok-word_in.ensures d in
    let p = err_from_is_err_and c.from_residual.result c.from_residual.ensures.1 in
    rw (p.1, p.2)
    (refused_first c.in_err-statement.field-0.0 (statement_in (word_view c.in-Ok-word_in.word))
    (λ statement. sized_line before c.in-Ok.label.0 statement) _ e
    (of_line c.in_err-statement.field-0.0 (statement_in (word_view c.in-Ok-word_in.word))
    c.in_err-statement.ensures.statement))

pub returns-in_err-statement-clause-alone : goal.returns-in_err-statement-clause-alone
returns-in_err-statement-clause-alone c =
    let e = alone_is c.args.text.now (c.in-Ok.label.0, tokens c.in-Ok.label.1.now)
    (word_view c.in-Ok-word_in.word) c.in-Ok.ensures c.in-Ok-word_in.ensures in
    let p = err_from_is_err_and c.from_residual.result c.from_residual.ensures.1 in
    rw (p.1, p.2) (λ w. rw e (memory_ran_out c.in_err-statement.field-0.0
    (statement_in (word_view c.in-Ok-word_in.word)) c.in_err-statement.ensures.statement w))
