-- What the functions that read an expression answer.
use Rattle.std.proofs.Common.{◌≡◌, cond, ℕ, Bool, true, false, List, get_or, drop, refl, sym, subst}
use Rattle.std.specs.Prelude.{Option, Some, None, option_map, Result, Ok, Err, nat_eq, codes, is_ok, is_err}
use Rattle.std.specs.Option.{ok_or}
use Rattle.std.specs.Result.{result_ok}
use Rattle.std.specs.List.{starts_with}
use Rattle.std.proofs.lemmas.List.Elements.{All-get_or}
use Rattle.hex.specs.Hex.{decode_of, is_hex_digit}
use Rattle.hex.specs.declared.error.FromHexError.{FromHexError}
use Rattle.hex.proofs.HexLemmas.{decode_of-ok}
use Rattle.flk_base.specs.Hexadecimal.{HasNonDigit}
use Rattle.expr_text.specs.ExpressionReading.{Reads, atom_in}
use Rattle.expr_text.specs.declared.expression.Unread.{Unread}
use Rattle.expr_text.specs.declared.expression.Unread.TheVariants.{Spelling, NoMemory}

-- what has a byte that is no digit spells no bytes
undecoded : (text : List ℕ) (r : Result (List ℕ) FromHexError) → HasNonDigit text
    → decode_of text ≡ r → result_ok r ≡ None
undecoded text (Err e) bad h = refl
undecoded text (Ok bytes) bad h =
    let digits = decode_of-ok text bytes h in
    let digit : is_hex_digit (get_or text bad.0 bad.1)
    ≡ true = All-get_or (λ c. is_hex_digit c ≡ true) text bad.0 bad.1 bad.2 digits.1 in
    let same = bad.3 in
    let none = bad.4 in
    absurd (cc)

-- a word after whose x: a byte is no digit
pub no_literal : (word text : List ℕ) → starts_with nat_eq word (codes "x:") ≡ true
    → text ≡ drop 2 word → HasNonDigit text → atom_in word ≡ None
no_literal word text begins same bad =
    let none = undecoded (drop 2 word) (decode_of (drop 2 word))
    (subst (λ t. HasNonDigit t) same bad) refl in
    rw (begins, none) refl

-- where there is nothing to read, the word is misspelled
pub reads_by : {X Y : Type 0} (view : X → Y) (o : Option X) (read : Option Y)
    → option_map view o ≡ read → Reads view (ok_or o Spelling) read
reads_by view None read h = sym h
reads_by view (Some x) read h = sym h

-- a push that did not fail
pub pushed : {X T E : Type 0} (r : Result T E) (t : Bool) (new xs ys : List X) → t ≡ is_err r
    → t ≡ false → new ≡ cond (is_ok r) xs ys → new ≡ xs
pushed (Ok _) t new xs ys e f h = h
pushed (Err _) t new xs ys e f h = absurd (cc)

-- why a part is not read is why the whole is not, where the whole is read from the part
pub part_fault : {A B : Type 0} (error : Unread) (part : Option A) (whole : Option B)
    → (part ≡ None → whole ≡ None)
    → Reads (λ (x : A). x) (Err error) part → Reads (λ (x : B). x) (Err error) whole
part_fault Spelling part whole needs h = needs h
part_fault NoMemory part whole needs h = tt
