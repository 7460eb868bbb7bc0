-- What a line of `verify` spells is what reading it gives.
use Rattle.std.proofs.Common.{◌≡◌, ℕ, ◌≤◌, List, [], ◌∷◌, length, refl, ap, subst, arith}
use Rattle.std.specs.Prelude.{Option, Some, None, Result, Ok, Err, IfOk}
use Rattle.std.specs.Option.{unwrap_or}
use Rattle.std.specs.Result.{result_ok}
use Rattle.std.specs.FinMap.{empty}
use Rattle.std.proofs.lemmas.Bool.Decides.{nat_tests}
use Rattle.std.proofs.lemmas.Option.{option_and_then_some}
use Rattle.expr_text.specs.ExpressionReading.{both, all_of, expression_of}
use Rattle.expr_text.specs.Numbers.{number_of}
use Rattle.expr_text.specs.Values.{value_of}
use Rattle.expr_text.proofs.ExpressionLemmas.{found as expression_found, again as expression_again}
use Rattle.script_text.specs.Lines.{words, content}
use Rattle.script_text.specs.declared.verify.VerifyFault.{VerifyFault}
use Rattle.script_text.specs.Verify.{Claim, SpellsValue, SpellsTwenty, SpellsByte, SpellsValues, SpellsClaim, SpellsVerify, value_in, if_twenty, twenty_in, if_byte, byte_in, claim_in, verify_reading, ReadsAs}

-- ---- a word

ok_of : {A E : Type 0} (r : Result A E) (x : A) → result_ok r ≡ Some x → r ≡ Ok x
ok_of (Ok y) x h = cc h
ok_of (Err e) x h = cc h

value_again : (bytes word : List ℕ) → SpellsValue bytes word → value_in word ≡ Some bytes
value_again bytes word h = rw (expression_again h.terms word h.spelled, h.worth) refl

value_found : (bytes word : List ℕ) → value_in word ≡ Some bytes → SpellsValue bytes word
value_found bytes word h =
    option_and_then_some _ (expression_of word) bytes h
    (λ terms spelled worth. record {
      terms = terms;
      spelled = expression_found word terms spelled;
      worth = ok_of (value_of terms empty) bytes worth;
    })

twenty_again : (bytes word : List ℕ) → SpellsTwenty bytes word → twenty_in word ≡ Some bytes
twenty_again bytes word h = rw (value_again bytes word h.value, h.twenty) refl

if_twenty_is : (value bytes : List ℕ) → if_twenty value ≡ Some bytes
    → (value ≡ bytes) × (length bytes ≡ 20)
if_twenty_is value bytes h = grind (arith, nat_tests)

twenty_found : (bytes word : List ℕ) → twenty_in word ≡ Some bytes → SpellsTwenty bytes word
twenty_found bytes word h =
    option_and_then_some if_twenty (value_in word) bytes h
    (λ value read twenty. let is = if_twenty_is value bytes twenty in record {
      value = value_found bytes word (rw is.0 at read);
      twenty = is.1;
    })

if_byte_again : (byte : ℕ) → byte ≤ 255 → if_byte byte ≡ Some byte
if_byte_again byte h = grind (arith, nat_tests)

byte_again : (byte : ℕ) (word : List ℕ) → SpellsByte byte word → byte_in word ≡ Some byte
byte_again byte word h = rw h.number (if_byte_again byte h.small)

if_byte_is : (number byte : ℕ) → if_byte number ≡ Some byte → (number ≡ byte) × (byte ≤ 255)
if_byte_is number byte h = grind (arith, nat_tests)

byte_found : (byte : ℕ) (word : List ℕ) → byte_in word ≡ Some byte → SpellsByte byte word
byte_found byte word h =
    option_and_then_some if_byte (number_of word) byte h
    (λ number read small. let is = if_byte_is number byte small in record {
      number = rw is.0 at read;
      small = is.1;
    })

values_again : (values words : List (List ℕ)) → SpellsValues values words
    → all_of value_in words ≡ Some values
values_again [] [] h = refl
values_again [] (word ∷ others) h = absurd h
values_again (bytes ∷ values) [] h = absurd h
values_again (bytes ∷ values) (word ∷ others) h =
    rw (value_again bytes word h.0, values_again values others h.1) refl

values_both : (value : Option (List ℕ)) (more : Option (List (List ℕ)))
    (bytes : List ℕ) (values : List (List ℕ))
    → both (λ x xs. x ∷ xs) value more ≡ Some (bytes ∷ values)
    → (value ≡ Some bytes) × (more ≡ Some values)
values_both (Some x) (Some xs) bytes values h = (cc, cc)
values_both (Some x) None bytes values h = cc h
values_both None more bytes values h = cc h

values_none : (value : Option (List ℕ)) (more : Option (List (List ℕ)))
    → both (λ x xs. x ∷ xs) value more ≡ Some [] → ⊥
values_none (Some x) (Some xs) h = cc h
values_none (Some x) None h = cc h
values_none None more h = cc h

values_found : (values words : List (List ℕ)) → all_of value_in words ≡ Some values
    → SpellsValues values words
values_found [] [] h = tt
values_found (bytes ∷ values) [] h = absurd (cc h)
values_found [] (word ∷ others) h =
    values_none (value_in word) (all_of value_in others) h
values_found (bytes ∷ values) (word ∷ others) h =
    let is = values_both (value_in word) (all_of value_in others) bytes values h in
    (value_found bytes word is.0, values_found values others is.1)

-- ---- a line

-- what words claim is read from them
claim_again : (claim : Claim) (line : List (List ℕ)) → SpellsClaim claim line
    → claim_in line ≡ Some claim
claim_again claim (key ∷ quote ∷ image ∷ inputs ∷ outputs ∷ end ∷ nonce ∷ texts) h =
    rw (
      twenty_again claim.key key h.0,
      value_again claim.quote quote h.1,
      value_again claim.image image h.2,
      value_again claim.inputs inputs h.3,
      value_again claim.outputs outputs h.4,
      byte_again claim.end end h.5,
      twenty_again claim.nonce nonce h.6,
      values_again claim.texts texts h.7,
    ) refl
claim_again claim fewer h = absurd h

abbrev claim_with : List ℕ → List ℕ → List ℕ → List ℕ → List ℕ → ℕ → List ℕ → List (List ℕ) → Claim
claim_with key quote image inputs outputs end nonce texts = record {
  key = key;
  quote = quote;
  image = image;
  inputs = inputs;
  outputs = outputs;
  end = end;
  nonce = nonce;
  texts = texts;
}

some_is : {A : Type 0} (x y : A) → Some x ≡ Some y → x ≡ y
some_is x y h = ap (λ o. unwrap_or o x) h

-- what is read from words they claim
claim_found : (claim : Claim) (line : List (List ℕ)) → claim_in line ≡ Some claim
    → SpellsClaim claim line
claim_found claim (key ∷ quote ∷ image ∷ inputs ∷ outputs ∷ end ∷ nonce ∷ texts) h =
    option_and_then_some _ (twenty_in key) claim h (λ k key_is h.
    option_and_then_some _ (value_in quote) claim h (λ q quote_is h.
    option_and_then_some _ (value_in image) claim h (λ i image_is h.
    option_and_then_some _ (value_in inputs) claim h (λ a inputs_is h.
    option_and_then_some _ (value_in outputs) claim h (λ o outputs_is h.
    option_and_then_some _ (byte_in end) claim h (λ e end_is h.
    option_and_then_some _ (twenty_in nonce) claim h (λ n nonce_is h.
    option_and_then_some _ (all_of value_in texts) claim h (λ ts texts_is h.
    subst (λ c. SpellsClaim c (key ∷ quote ∷ image ∷ inputs ∷ outputs ∷ end ∷ nonce ∷ texts))
    (some_is (claim_with k q i a o e n ts) claim h) (
      twenty_found k key key_is,
      value_found q quote quote_is,
      value_found i image image_is,
      value_found a inputs inputs_is,
      value_found o outputs outputs_is,
      byte_found e end end_is,
      twenty_found n nonce nonce_is,
      values_found ts texts texts_is,
    )))))))))
claim_found claim fewer h = absurd (cc h)

pub again : (line : List ℕ) (claim : Claim) → SpellsVerify claim line
    → verify_reading line ≡ Some claim
again line claim h = claim_again claim (words (content line)) h

pub found : (line : List ℕ) (claim : Claim) → verify_reading line ≡ Some claim
    → SpellsVerify claim line
found line claim h = claim_found claim (words (content line)) h

-- what is returned is spelled so
pub found_if : {X : Type 0} (view : X → Claim) (r : Result X VerifyFault) (line : List ℕ)
    → ReadsAs view r (verify_reading line) → IfOk r (λ x. SpellsVerify (view x) line)
found_if view (Ok x) line h = found line (view x) h
found_if view (Err fault) line h = tt
