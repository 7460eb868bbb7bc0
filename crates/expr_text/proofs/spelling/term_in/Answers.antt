use Rattle.std.proofs.Common.{refl, ◌∙◌}
use Rattle.std.proofs.lemmas.Result.{err_from_is_err_and}
use Rattle.expr_text.proofs.PieceLemmas.{term_parts}
use Rattle.expr_text.proofs.SpellingLemmas.{part_fault}
use Rattle.expr_text.proofs.spelling.term_in.Goals as goal

pub returns-in_err-atom : goal.returns-in_err-atom
returns-in_err-atom c =
    let p = err_from_is_err_and c.from_residual.result c.from_residual.ensures.1 in
    let whole = term_parts c.args.text.now _ _ c.before_suffix.result c.before_suffix.ensures.value c.split_at.ensures.front c.split_at.ensures.back in
    rw (p.1, p.2) (part_fault _ _ _ (λ none. whole ∙ rw none refl) c.in_err-atom.ensures)

pub returns-in_err-suffixes : goal.returns-in_err-suffixes
returns-in_err-suffixes c =
    let p = err_from_is_err_and c.from_residual-in_err-suffixes.result c.from_residual-in_err-suffixes.ensures.1 in
    let whole = term_parts c.args.text.now _ _ c.before_suffix.result c.before_suffix.ensures.value c.split_at.ensures.front c.split_at.ensures.back in
    let atom = c.in_ok-atom.ensures in
    rw (p.1, p.2)
    (part_fault _ _ _ (λ none. whole ∙ rw (atom, none) refl) c.in_err-suffixes.ensures)

pub returns : goal.returns
returns c =
    let atom = c.in_ok-atom.ensures in
    let suffixes = c.in_ok-suffixes.ensures in
    let whole = term_parts c.args.text.now _ _ c.before_suffix.result c.before_suffix.ensures.value c.split_at.ensures.front c.split_at.ensures.back in
    rw (whole, atom, suffixes) refl
