use Rattle.std.proofs.Common.{sym, ap, ◌∙◌}
use Rattle.std.specs.Option.{option_copied}
use Rattle.std.specs.Prelude.{Some}
use Rattle.expr_text.proofs.VariableLemmas.{bytes_of, got, none_long}
use Rattle.expr_text.proofs.vars.Vars.get.Goals as goal

pub returns-then-name-gt-LONGEST_NAME : goal.returns-then-name-gt-LONGEST_NAME
returns-then-name-gt-LONGEST_NAME c =
    none_long _ _ _
    (ap (λ v. v.table) c.self.view_is) c.self.invariant c.if-name-gt-LONGEST_NAME.true

pub returns-in_err-value : goal.returns-in_err-value
returns-in_err-value c =
    ap option_copied c.from_residual.ensures
    ∙ ap (λ o. bytes_of (option_copied o)) (sym c.in_err-value.was)
    ∙ got _ _ _ _ _ (ap (λ v. v.table) c.self.view_is) c.new.ensures c.get.ensures.value

pub returns : goal.returns
returns c =
    ap Some c.as_slice.ensures ∙ ap (λ o. bytes_of (option_copied o)) (sym c.in_ok-value.was)
    ∙ got _ _ _ _ _ (ap (λ v. v.table) c.self.view_is) c.new.ensures c.get.ensures.value
