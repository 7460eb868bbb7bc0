-- The parts of a quote.
use Rattle.std.proofs.Common.{◌≡◌, ℕ, ◌++◌, List, length, length-append, arith}
use Rattle.std.specs.Prelude.{codes}
use Rattle.flk_hmac.proofs.MacLengths.{length-mac}
use Rattle.flk_hmac.specs.Quotes.{quote_tag, quote_of}

-- a quote has 40 bytes
pub length-quote_of : (key nonce value : List ℕ) → length value ≡ 20 →
    length (quote_of key nonce value) ≡ 40
length-quote_of key nonce value long =
    omega (
      arith,
      length-append value (quote_tag key nonce value),
      length-mac key (codes "FLKQ" ++ nonce ++ value),
      long,
    )
