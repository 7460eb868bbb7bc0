use Rattle.std.proofs.Common.{subst}
use Rattle.script_text.specs.Verify.{ReadsAs, claim_of}
use Rattle.script_text.proofs.VerifyLemmas.{found_if, again}
use Rattle.script_text.proofs.verify.read_verify.Goals as goal

pub returns-clause-spelled : goal.returns-clause-spelled
returns-clause-spelled c = found_if claim_of c.read.result c.args.bytes.now c.read.ensures.exact

pub returns-clause-only : goal.returns-clause-only
returns-clause-only c claim h =
    subst (λ reading. ReadsAs claim_of c.read.result reading)
    (again c.args.bytes.now claim h) c.read.ensures.exact
