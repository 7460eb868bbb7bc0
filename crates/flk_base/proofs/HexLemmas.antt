-- When hexadecimal text is refused.
use Rattle.std.proofs.Common.{◌≡◌, ◌⊎◌, inl, inr, ℕ, ◌%◌, ◌<◌, true, false, List, length, get_or}
use Rattle.std.proofs.Common.{sym, subst, arith}
use Rattle.std.specs.Prelude.{Ok, Err}
use Rattle.std.proofs.lemmas.List.Elements.{All-get_or}
use Rattle.std.proofs.lemmas.Grind.{common_steps}
use Rattle.hex.specs.Hex.{decode_of, is_hex_digit}
use Rattle.hex.specs.declared.error.FromHexError.{FromHexError}
use Rattle.hex.proofs.HexLemmas.{decode_of-ok, decode_of-err}
use Rattle.flk_base.specs.declared.hexadecimal.HexFault.{HexFault}
use Rattle.flk_base.specs.declared.hexadecimal.HexFault.TheVariants.{Digit, NoMemory}
use Rattle.flk_base.specs.Hexadecimal.{HasNonDigit, HasHexCause}

-- what decodes has digits alone
pub no_digit_refused : (text bytes : List ℕ) → decode_of text ≡ Ok bytes → HasNonDigit text → ⊥
no_digit_refused text bytes h n =
    let digits = decode_of-ok text bytes h in
    let digit : is_hex_digit (get_or text n.0 n.1) ≡ true =
    All-get_or (λ c. is_hex_digit c ≡ true) text n.0 n.1 n.2 digits.1 in
    let same = n.3 in
    let bad = n.4 in
    cc

-- a text with a byte at this index that is no digit
at_index : (text : List ℕ) (k : ℕ) → k < length text → is_hex_digit (get_or text k 0) ≡ false
    → HasNonDigit text
at_index text k h bad = (k, get_or text k 0, h, grind (arith, common_steps), bad)

-- what does not decode, and is even, has a byte that is no digit
pub refused_cause : (text : List ℕ) (e : FromHexError) → length text % 2 ≡ 0
    → decode_of text ≡ Err e → HasNonDigit text
refused_cause text e even h = elim (decode_of-err text e h) [
  | inl odd ↦ absurd (omega (arith, odd.0))
  | inr first ↦ at_index text first.0 first.2 first.3
]

-- what an even number of bytes is refused for
pub cause_of : (text : List ℕ) (fault : HexFault) → length text % 2 ≡ 0
    → (fault ≡ NoMemory) ⊎ ((fault ≡ Digit) × HasNonDigit text) → HasHexCause text fault
cause_of text fault even (inl memory) = subst (λ f. HasHexCause text f) (sym memory) even
cause_of text fault even (inr bad) = subst (λ f. HasHexCause text f) (sym bad.0) (even, bad.1)
