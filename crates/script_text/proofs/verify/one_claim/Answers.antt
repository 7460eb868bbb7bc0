use Rattle.std.proofs.Common.{sym, ◌∙◌}
use Rattle.script_text.proofs.VerifyLemmas.{found, again}
use Rattle.script_text.proofs.verify.one_claim.Goals as goal

pub returns-clause-one : goal.returns-clause-one
returns-clause-one c line a b one other = let e = sym (again line a one) ∙ again line b other in cc

pub returns-clause-read : goal.returns-clause-read
returns-clause-read c line claim = (again line claim, found line claim)
