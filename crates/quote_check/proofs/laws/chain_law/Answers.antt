use Rattle.quote_check.proofs.Sessions.{one_session}
use Rattle.quote_check.proofs.laws.chain_law.Goals as goal

pub returns : goal.returns
returns c = λ s t is. one_session s t is
