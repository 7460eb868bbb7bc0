use Rattle.std.proofs.Common.{true, ◌≡◌, subst}
use Rattle.tpm_state.specs.Chain.{Chain}
use Rattle.seal_device.specs.Quoted.{Quoted}
use Rattle.seal_device.specs.Lists.{same_quote}
use Rattle.seal_device.proofs.Quotes.{same_quote_is, quote_itself, quote_kept, quotes_stand}
use Rattle.seal_device.proofs.Quotes.{check_says, check_says_by_digests}
use Rattle.seal_device.proofs.quote_laws.quote_law.Goals as goal

pub returns-clause-kept : goal.returns-clause-kept
returns-clause-kept g c = λ q plan before there. quote_kept q plan before there

pub returns-clause-only : goal.returns-clause-only
returns-clause-only g c = λ command d other. quotes_stand command d other

pub returns-clause-says : goal.returns-clause-says
returns-clause-says g c = λ d keys claim bytes is. check_says d keys claim bytes is

pub returns-clause-by_digests : goal.returns-clause-by_digests
returns-clause-by_digests g c = λ d keys claim bytes is. check_says_by_digests d keys claim bytes is

pub returns-clause-same : goal.returns-clause-same
returns-clause-same g c = λ one other. (
  λ is. same_quote_is one other is,
  λ same. subst (λ (q : Quoted Chain). same_quote one q ≡ true) same (quote_itself one),
)
