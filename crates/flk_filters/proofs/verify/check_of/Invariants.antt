use Rattle.std.proofs.Common.{◌≡◌, take}
use Rattle.tpm_state.specs.Chain.{value}
use Rattle.tpm_state.specs.Sessions.{running_chain}
use Rattle.flk_filters.proofs.verify.check_of.Given as goal

-- the code has extended the register by the texts so far
abbrev pub invariant-loop-i : goal.invariant-loop-i
invariant-loop-i l = l.check ≡ value (running_chain l.fn.image (take l.i l.fn.texts))
