use Rattle.flk_hmac.proofs.Sameness.{SameBelow}
use Rattle.flk_hmac.proofs.comparing.is_same.Given as goal

abbrev pub invariant-loop-i : goal.invariant-loop-i
invariant-loop-i l = SameBelow l.one l.other l.same l.i
