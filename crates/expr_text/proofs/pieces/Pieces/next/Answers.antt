use Rattle.std.proofs.Common.{sym, ap, ◌∙◌, ◌+◌, take, ◌∷◌, ◌==◌}
use Rattle.std.specs.Option.{option_copied}
use Rattle.std.proofs.lemmas.List.{take_rest}
use Rattle.expr_text.specs.Pieces.{pieces_of, pieces_at}
use Rattle.expr_text.proofs.PieceLemmas.{piece_more, piece_last}
use Rattle.expr_text.proofs.pieces.Pieces.next.Goals as goal
use Rattle.expr_text.proofs.pieces.Pieces.next.Goals.{then-end-text, else-end-text}

pub returns : goal.returns
returns c =
    let text = c.in_ok-text.text.now in
    let end = c.before-end.result in
    let separator = c.self.inside.separator in
    sym c.self.view_is ∙ ap (λ o. pieces_of separator (option_copied o)) c.in_ok-text.was
    ∙ elim c.if-end-text.branch [
      | then-end-text w ↦
          piece_more (λ b. b == separator) text end c.before-end.ensures.value w.if-end-text.true
          ∙ ap (λ r. take end text ∷ pieces_at separator r) (sym (take_rest text (end + 1)))
          ∙ ap (λ o. take end text ∷ pieces_of separator (option_copied o)) (sym w.self-is)
      | else-end-text w ↦
          piece_last (λ b. b == separator) text end c.before-end.ensures.value w.if-end-text.false
          ∙ ap (λ o. take end text ∷ pieces_of separator (option_copied o)) (sym w.self-is)
    ]
