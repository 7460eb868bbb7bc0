use Rattle.std.proofs.Common.{sym, ap, ◌∙◌, drop}
use Rattle.std.proofs.lemmas.List.{take_rest}
use Rattle.expr_text.specs.ExpressionReading.{repeated_in}
use Rattle.expr_text.specs.SeenExpressions.{seen_atom}
use Rattle.expr_text.proofs.SpellingLemmas.{reads_by}
use Rattle.expr_text.proofs.spelling.atom_in.Goals as goal

pub returns-then-starts_with-2 : goal.returns-then-starts_with-2
returns-then-starts_with-2 c =
    let first = sym c.starts_with.ensures.value ∙ c.if-starts_with.false in
    let second = sym c.starts_with-else-starts_with.ensures.value ∙ c.if-starts_with-2.true in
    rw (c.ok_or.ensures.value, first, second)
    (reads_by seen_atom c.repeated_in.result (repeated_in (drop 4 c.args.word.now))
    (c.repeated_in.ensures ∙ ap repeated_in (take_rest c.args.word.now 4)))
