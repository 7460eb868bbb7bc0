-- A digest and an HMAC have 20 bytes.
use Rattle.std.proofs.Common.{◌≡◌, ℕ, zero, suc, ◌*◌, List, length, length-append, refl, arith}
use Rattle.std.specs.Prelude.{slice_index}
use Rattle.std.specs.Int.{w32, to_be_bytes}
use Rattle.sha1.specs.Sha1.{sha1, digest_bytes}
use Rattle.flk_hmac.specs.Hmac.{mac}

length-digest_bytes : (h : List ℕ) (n : ℕ) → length (digest_bytes h n) ≡ 4 * n
unfolding digest_bytes
length-digest_bytes h zero = refl
length-digest_bytes h (suc n) =
    omega (
      arith,
      length-append (digest_bytes h n) (to_be_bytes w32 (slice_index h n)),
      length-digest_bytes h n,
    )

pub length-sha1 : (m : List ℕ) → length (sha1 m) ≡ 20
unfolding sha1
length-sha1 m = length-digest_bytes _ 5

pub length-mac : (key text : List ℕ) → length (mac key text) ≡ 20
unfolding mac
length-mac key text = length-sha1 _
