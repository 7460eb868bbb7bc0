use Rattle.std.proofs.Common.{sym, ◌∙◌}
use Rattle.script_text.proofs.ReadingLemmas.{found, again}
use Rattle.script_text.proofs.line.one_request.Goals as goal

pub returns-clause-read : goal.returns-clause-read
returns-clause-read c line asked = (again line asked, found line asked)

pub returns-clause-one : goal.returns-clause-one
returns-clause-one c line a b one other = let e = sym (again line a one) ∙ again line b other in cc
