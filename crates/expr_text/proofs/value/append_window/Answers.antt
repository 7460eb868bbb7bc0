use Rattle.std.proofs.Common.{◌++◌, sym, ap, ◌∙◌, arith, append-nil}
use Rattle.expr_text.specs.SeenExpressions.{seen_suffixes}
use Rattle.expr_text.proofs.WindowLemmas.{changes_by-nil, window_more}
use Rattle.expr_text.proofs.value.append_window.Goals as goal

pub loop-done-init : goal.loop-done-init
loop-done-init c = (
  omega arith,
  sym (ap (λ ys. c.args.made.now.bytes ++ ys)
      (changes_by-nil (seen_suffixes c.args.suffixes.now) 0 c.args.window.from)
      ∙ append-nil c.args.made.now.bytes),
)

pub loop-done-preserved : goal.loop-done-preserved
loop-done-preserved c = (
  omega arith,
  window_more (seen_suffixes c.args.suffixes.now) _ _ _ _ c.args.window.from c.args.window.len c.loop-done.done c.min-count.result c.requires.window (omega arith) c.loop-done.invariant.1 c.in_ok-append_piece.ensures,
)
