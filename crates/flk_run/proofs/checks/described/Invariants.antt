use Rattle.std.proofs.Common.{◌≡◌, map}
use Rattle.std.specs.Prelude.{take}
use Rattle.tpm_state.specs.Chain.{value}
use Rattle.tpm_state.specs.Sessions.{running_chain}
use Rattle.flk_run.proofs.checks.described.Given as goal

abbrev pub invariant-loop-text : goal.invariant-loop-text
invariant-loop-text l =
    l.check ≡ value (running_chain l.image (map (λ text. text.bytes) (take l.text-index l.texts)))
