use Rattle.std.proofs.Common.{ℕ, List, ap, sym, ◌∙◌}
use Rattle.std.specs.Prelude.{take}
use Rattle.tpm_state.specs.Chain.{value, extended_value}
use Rattle.tpm_state.specs.Sessions.{pal_text, running_chain}
use Rattle.flk_run.proofs.CheckLemmas.{bytes_of, described_more}
use Rattle.flk_run.proofs.checks.described.Goals as goal

pub loop-text-preserved : goal.loop-text-preserved
loop-text-preserved c =
    c.extend.ensures
    ∙ ap (λ (v : List ℕ). extended_value v (pal_text c.as_slice.result.now)) c.loop-text.invariant
    ∙ ap (λ (text : List ℕ). extended_value
    (value (running_chain c.args.image.now (bytes_of (take c.loop-text.text-index c.args.texts.now))))
    (pal_text text)) c.as_slice.ensures
    ∙ described_more c.args.image.now c.args.texts.now c.loop-text.text-index c.text-item.result
    c.loop-text-test.true (sym c.text-item.is)
