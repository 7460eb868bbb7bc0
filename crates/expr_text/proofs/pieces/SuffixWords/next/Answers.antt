use Rattle.std.proofs.Common.{refl, sym, ◌∙◌}
use Rattle.std.proofs.lemmas.List.{take_rest}
use Rattle.expr_text.proofs.PieceLemmas.{suffix_first}
use Rattle.expr_text.proofs.pieces.SuffixWords.next.Goals as goal

pub returns : goal.returns
returns c =
    let text = c.self.inside.rest.now in
    let whole = suffix_first text _ c.before_suffix.result (sym c.if-is_empty.ensures)
    (take_rest text 1) c.before_suffix.ensures.value in
    let word = c.split_at.ensures.front in
    let rest = c.split_at.ensures.back in
    sym c.self.view_is ∙ whole ∙ rw (word, rest) refl
