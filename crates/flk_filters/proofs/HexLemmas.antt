-- When a text spells bytes, and how many.
use Rattle.std.proofs.Common.{◌≡◌, ℕ, ◌/◌, ◌%◌, true, false, List, length, refl, ap, arith}
use Rattle.std.specs.Prelude.{Result, Ok, Err}
use Rattle.std.specs.List.{list_all}
use Rattle.std.proofs.lemmas.List.Sums.{AllPass-from_list_all, list_all-from_AllPass}
use Rattle.hex.specs.Hex.{decode_of, is_hex_digit}
use Rattle.hex.specs.declared.error.FromHexError.{FromHexError}
use Rattle.hex.proofs.HexLemmas.{decode_of-odd, decode_of-ok, decode_of-digits}
use Rattle.flk_filters.specs.declared.fault.BadInput.TheVariants.{Hex}
use Rattle.flk_filters.specs.Filters.{or_bad_hex}
use Rattle.flk_filters.specs.Seen.{size_of}

undecoded : (digits : List ℕ) (r : Result (List ℕ) FromHexError)
    → list_all is_hex_digit digits ≡ false → decode_of digits ≡ r → or_bad_hex r ≡ Err Hex
undecoded digits (Err e) bad h = refl
undecoded digits (Ok bytes) bad h = let all =
    list_all-from_AllPass is_hex_digit digits (decode_of-ok digits bytes h).1 in absurd (cc)

-- what has a byte that is no digit spells no bytes
pub no_digits : (digits : List ℕ) → list_all is_hex_digit digits ≡ false
    → or_bad_hex (decode_of digits) ≡ Err Hex
no_digits digits bad = undecoded digits (decode_of digits) bad refl

-- nor do digits of an odd number
pub odd_digits : (digits : List ℕ) → length digits % 2 ≡ 1 → or_bad_hex (decode_of digits) ≡ Err Hex
odd_digits digits odd = ap (λ r. or_bad_hex r) (decode_of-odd digits odd)

-- digits of an even number spell a byte for each two
pub even_digits : (digits : List ℕ) → list_all is_hex_digit digits ≡ true → length digits % 2 ≡ 0
    → size_of (or_bad_hex (decode_of digits)) ≡ Ok (length digits / 2)
even_digits digits all even =
    let bytes = decode_of-digits digits even (AllPass-from_list_all is_hex_digit digits all) in
    let twice = (decode_of-ok digits bytes.0 bytes.1).2 in
    let half : length bytes.0 ≡ length digits / 2 = omega arith in
    rw bytes.1 (ap (λ n. Ok n) half)
