use Rattle.quote_check.proofs.Chains.{running-more, session-value}
use Rattle.quote_check.proofs.laws.value_law.Goals as goal

pub returns-clause-more : goal.returns-clause-more
returns-clause-more c = λ image text texts. running-more image text texts

pub returns-clause-whole : goal.returns-clause-whole
returns-clause-whole c = λ s. session-value s
