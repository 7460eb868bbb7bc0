use Rattle.std.proofs.Common.{sym, ◌∙◌, ap}
use Rattle.std.proofs.lemmas.List.{take_rest}
use Rattle.std.specs.Prelude.{◌∷◌}
use Rattle.pal_asm.specs.Tokens.{tokens}
use Rattle.pal_asm.proofs.TokenLemmas.{none_left, word_left, minus_left, mark_left}
use Rattle.pal_asm.proofs.tokens.first_token.Goals as goal

pub returns-in_err-first : goal.returns-in_err-first
returns-in_err-first c =
    rw c.from_residual.ensures (none_left c.args.text.now _ c.space_count.result
    c.space_count.ensures.value (take_rest c.args.text.now c.space_count.result)
    c.in_err-first.ensures.cases)

pub returns-then-is_word_byte : goal.returns-then-is_word_byte
returns-then-is_word_byte c =
    word_left c.args.text.now _ c.in_ok-first.after.now _ _ c.space_count.result
    c.in_ok-first.first.now c.word_length.result
    c.space_count.ensures.value (take_rest c.args.text.now c.space_count.result)
    c.in_ok-first.ensures.cases.0
    (sym c.is_word_byte.ensures
    ∙ c.if-is_word_byte.true) c.word_length.ensures.value c.split_at.ensures.front
    c.split_at.ensures.back

pub returns-then-first-eq45 : goal.returns-then-first-eq45
returns-then-first-eq45 c =
    minus_left c.args.text.now _ c.in_ok-first.after.now _ c.space_count.result
    c.in_ok-first.first.now
    c.space_count.ensures.value (take_rest c.args.text.now c.space_count.result)
    c.in_ok-first.ensures.cases.0 c.if-first-eq45.true c.after_minus.ensures

pub returns-else-first-eq45 : goal.returns-else-first-eq45
returns-else-first-eq45 c =
    mark_left c.args.text.now _ c.in_ok-first.after.now c.space_count.result c.in_ok-first.first.now
    c.space_count.ensures.value (take_rest c.args.text.now c.space_count.result)
    c.in_ok-first.ensures.cases.0
    (sym c.is_word_byte.ensures ∙ c.if-is_word_byte.false) c.if-first-eq45.false
    ∙ ap (λ t. t ∷ tokens c.in_ok-first.after.now) (sym c.mark.ensures)
