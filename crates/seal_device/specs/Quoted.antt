-- What a device quotes: the history of register 17, for a nonce. H is what that history is kept as:
-- all its texts, or 20 bytes.
use Rattle.std.specs.Prelude.{ℕ, List, take, bytes_eq, Bool}
use Rattle.flk_hmac.specs.Quotes.{quote_of}
use Rattle.tpm_state.specs.Chain.{Chain, value}
use Rattle.seal_device.specs.Keys.{Keys}

-- a quote: register 17's chain when it was made, and the nonce that it was made for
pub record Quoted (H : Type 0) : Type 0 where
  pub chain : H
  pub nonce : List ℕ

-- the bytes of a quote under these keys
abbrev pub quote_bytes : Keys → Quoted Chain → List ℕ
quote_bytes keys q = quote_of keys.quoting q.nonce (value q.chain)

-- bytes have the form and the tag of a quote for a nonce under these keys: they are the quote of
-- their first 20
abbrev pub is_tagged_for : Keys → List ℕ → List ℕ → Bool
is_tagged_for keys nonce bytes = bytes_eq (quote_of keys.quoting nonce (take 20 bytes)) bytes
