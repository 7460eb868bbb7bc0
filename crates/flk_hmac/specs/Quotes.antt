-- Quotes: what a device says of the value of register 17 (an HMAC, RFC 2104, in place of TPM_Quote's
-- signature).
use Rattle.std.specs.Prelude.{ℕ, List, ◌++◌, codes}
use Rattle.flk_hmac.specs.Hmac.{mac}

-- the tag of a value for a nonce, under the key for quotes
abbrev pub quote_tag : List ℕ → List ℕ → List ℕ → List ℕ
quote_tag key nonce value = mac key (codes "FLKQ" ++ nonce ++ value)

-- the quote of a value: its 20 bytes, and the tag
abbrev pub quote_of : List ℕ → List ℕ → List ℕ → List ℕ
quote_of key nonce value = value ++ quote_tag key nonce value
