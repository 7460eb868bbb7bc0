use Rattle.std.proofs.Common.{List, ℕ, sym, ap, ◌∙◌}
use Rattle.tpm_state.specs.Chain.{extended_value}
use Rattle.tpm_state.specs.Sessions.{pal_text}
use Rattle.flk_filters.proofs.VerdictLemmas.{extended_more}
use Rattle.flk_filters.proofs.verify.check_of.Goals as goal

pub loop-i-preserved : goal.loop-i-preserved
loop-i-preserved c =
    c.extend.ensures
    ∙ ap (λ (v : List ℕ). extended_value v (pal_text c.in-Some.text.now)) c.loop-i.invariant
    ∙ extended_more c.args.image.now c.args.texts.now c.loop-i.i c.in-Some.text.now
    (sym c.in-Some.ensures)
