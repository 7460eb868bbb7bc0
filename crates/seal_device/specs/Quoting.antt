-- Quoting, and the check of a quote, by the rules of any platform.
use Rattle.std.specs.Prelude.{ℕ, Bool, List, Result, Ok}
use Rattle.flk_hmac.specs.Quotes.{quote_of}
use Rattle.tpm_state.specs.Chain.{Chain}
use Rattle.seal_device.specs.Keys.{Keys}
use Rattle.seal_device.specs.Quoted.{Quoted}
use Rattle.seal_device.specs.Rules.{Device, Rules}
use Rattle.seal_device.specs.Sealing.{present_chain}
use Rattle.seal_device.specs.Refusals.Quote as quotes

-- the quote of register 17 now, for a nonce
abbrev pub new_quote : {H M : Type 0} → Rules H M → List ℕ → Device H M → Quoted H
new_quote R nonce d = record { chain = present_chain R d; nonce = nonce }

-- the device once it made a quote
abbrev pub with_quote : {H M : Type 0} → Rules H M → Quoted H → Device H M → Device H M
with_quote R q d = record d { made = R.with_quote q d.made }

-- register 17 is quoted for a nonce
abbrev pub quote : {H M : Type 0} → Rules H M → List ℕ → Device H M → Keys →
    Device H M × Result (List ℕ) quotes.Refusal
quote R nonce d keys = (
  with_quote R (new_quote R nonce d) d,
  Ok (quote_of keys.quoting nonce (R.shown (present_chain R d))),
)

-- bytes are checked: whether they are the quote that they are claimed to be. It changes nothing
abbrev pub check : {H M : Type 0} → Rules H M → Quoted Chain → List ℕ → Device H M → Keys →
    Device H M × Result Bool quotes.Refusal
check R claim bytes d keys = (d, Ok (R.says keys d.made claim bytes))
