-- Only a line of `verify` is denied: one of its form, whose quote is not that of its session.
use Rattle.std.proofs.Common.{◌≡◌, inl, inr, ℕ, Bool, true, false, List, Option, Some, None, Result, Ok, Err, refl, ◌∙◌}
use Rattle.std.specs.Prelude.{length, nat_lt, codes, if◌then◌else◌}
use Rattle.std.specs.Option.{ok_or}
use Rattle.std.proofs.lemmas.Bool.{cases_Bool}
use Rattle.hex.specs.Hex.{decode_of}
use Rattle.flk_base.specs.Checks.{◌>>=◌}
use Rattle.slb_image.specs.Faults.{image_fault}
use Rattle.slb_image.specs.declared.fault.ImageFault.{ImageFault}
use Rattle.pal_asm.specs.declared.fault.AsmFault.{AsmFault}
use Rattle.pal_asm.specs.Statements.{most_code}
use Rattle.pal_asm.specs.Assembling.{code_of}
use Rattle.script_text.specs.Verify.{Claim, verify_reading}
use Rattle.flk_filters.specs.declared.fault.BadInput.{BadInput}
use Rattle.flk_filters.specs.declared.fault.BadInput.TheVariants.{Denied, VerifyLine}
use Rattle.flk_filters.specs.declared.filter.Filter.{Filter as Which}
use Rattle.flk_filters.specs.declared.filter.Filter.TheVariants.{Asm, Dis, Measure, Verify}
use Rattle.flk_filters.specs.Filters.{most_input, at_most, or_bad_hex, without_spaces, hex_of, hex_in, code_line, assembly_text, code_in, or_no_image, image_in, measures, measure_text, without_line_end, claim_in, or_denied, is_true, verify_text, fault_of, fault_in}

-- it is not that the input is denied
abbrev Spared : {A : Type 0} → Result A BadInput → Type 0
Spared {A} r = r ≡ Err Denied → ⊥

spared_then : {A B : Type 0} (r : Result A BadInput) (next : A → Result B BadInput) → Spared r
    → ((a : A) → Spared (next a)) → Spared (r >>= next)
spared_then (Ok a) next first rest = rest a
spared_then {A} {B} (Err bad) next first rest = λ is. first (again bad is) where
  again : (bad : BadInput) → ◌≡◌ {A = Result B BadInput} (Err bad) (Err Denied) → ◌≡◌ {A = Result A BadInput} (Err bad) (Err Denied)
  again bad is = let same : bad ≡ Denied = cc in rw same refl

spared_most : (most : ℕ) (bytes : List ℕ) → Spared (at_most most bytes)
spared_most most bytes = elim (cases_Bool (nat_lt most (length bytes))) [
  | inl long ↦ rw long (λ is. cc)
  | inr short ↦ rw short (λ is. cc)
]

spared_digits : {E : Type 0} (r : Result (List ℕ) E) → Spared (or_bad_hex r)
spared_digits (Ok bytes) = λ is. cc
spared_digits (Err e) = λ is. cc

spared_hex : (input : List ℕ) → Spared (hex_in input)
spared_hex input =
    spared_then (at_most most_input input) hex_of (spared_most most_input input)
    (λ text. spared_digits (decode_of (without_spaces text)))

spared_code : (r : Result (List ℕ) AsmFault) → Spared (code_line r)
spared_code (Ok code) = λ is. cc
spared_code (Err fault) = λ is. cc

spared_image : (bytes : List ℕ) (fault : Option ImageFault) → Spared (or_no_image bytes fault)
spared_image bytes None = λ is. cc
spared_image bytes (Some fault) = λ is. cc

spared_claim : (input : List ℕ) → Spared (claim_in input)
spared_claim input =
    spared_then (at_most most_input input) (λ text. ok_or (verify_reading (without_line_end text)) VerifyLine)
    (spared_most most_input input) (λ text. spared_reading (verify_reading (without_line_end text))) where
      spared_reading : (read : Option Claim) → Spared (ok_or read VerifyLine)
      spared_reading (Some claim) = λ is. cc
      spared_reading None = λ is. cc

-- a fault is the error
fault_is : {A : Type 0} (r : Result A BadInput) → fault_of r ≡ Some Denied → r ≡ Err Denied
fault_is (Ok a) is = absurd (cc)
fault_is (Err bad) is = let same : bad ≡ Denied = cc in rw same refl

-- no filter but `verify` denies
pub only_verify : (which : Which) (input : List ℕ) → fault_in which input ≡ Some Denied → which ≡ Verify
only_verify Asm input is =
    absurd (spared_then (at_most most_input input) (λ text. code_line (code_of text)) (spared_most most_input input)
    (λ text. spared_code (code_of text)) (fault_is (assembly_text input) is))
only_verify Dis input is =
    absurd (spared_then (hex_in input) (at_most most_code) (spared_hex input) (λ code. spared_most most_code code)
    (fault_is (code_in input) is))
only_verify Measure input is =
    absurd (spared_then (image_in input) (λ image. Ok (measures image))
    (spared_then (hex_in input) (λ bytes. or_no_image bytes (image_fault bytes)) (spared_hex input)
    (λ bytes. spared_image bytes (image_fault bytes)))
    (λ image is. cc) (fault_is (measure_text input) is))
only_verify Verify input is = refl

-- what it denies is a line of its form, whose quote is not that of its session
pub denied_claim : (input : List ℕ) → fault_in Verify input ≡ Some Denied
    → (claim : Claim) × (claim_in input ≡ Ok claim) × (is_true claim ≡ false)
denied_claim input is = by_claim (claim_in input) refl (fault_is (verify_text input) is) where
  by_test : (claim : Claim) → claim_in input ≡ Ok claim → (b : Bool) → is_true claim ≡ b
      → ◌≡◌ {A = Result (List ℕ) BadInput}
      ((let read : Result Claim BadInput = if b then Ok claim else Err Denied in read) >>= λ claim. Ok (codes "yes\n")) (Err Denied)
      → (claim : Claim) × (claim_in input ≡ Ok claim) × (is_true claim ≡ false)
  by_test claim read true test is = absurd (cc)
  by_test claim read false test is = (claim, read, test)

  by_claim : (r : Result Claim BadInput) → claim_in input ≡ r
      → ◌≡◌ {A = Result (List ℕ) BadInput} (r >>= or_denied >>= λ claim. Ok (codes "yes\n")) (Err Denied)
      → (claim : Claim) × (claim_in input ≡ Ok claim) × (is_true claim ≡ false)
  by_claim (Ok claim) read is = by_test claim read (is_true claim) refl is
  by_claim (Err bad) read is =
      let same : bad ≡ Denied = cc in
      absurd (spared_claim input (read ∙ rw same refl))
