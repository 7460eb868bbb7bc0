-- The filters, the commands that read their whole input: why an input is not of a filter's form,
-- and what is written of one that is.
use Rattle.std.specs.Prelude.{◌≡◌, ℕ, ◌≤◌, ◌-◌, ◌==◌, ◌||◌, not, nat_lt, Bool, List, [], ◌++◌, length, take, slice_index, filter, bytes_eq, codes, Option, Some, None, Result, Ok, Err, IsOk, if◌then◌else◌}
use Rattle.std.specs.Option.{ok_or}
use Rattle.hex.specs.Hex.{decode_of, encode_lower}
use Rattle.sha1.specs.Sha1.{sha1}
use Rattle.flk_base.specs.Checks.{◌>>=◌}
use Rattle.slb_image.specs.Faults.{image_fault}
use Rattle.slb_image.specs.declared.fault.ImageFault.{ImageFault}
use Rattle.tpm_state.specs.Chain.{value, launch_chain, ◌▷◌}
use Rattle.pal_asm.specs.declared.fault.AsmFault.{AsmFault}
use Rattle.pal_asm.specs.Lines.{lines}
use Rattle.pal_asm.specs.Statements.{most_code}
use Rattle.pal_asm.specs.Assembling.{code_of, line_alone, first_tokens}
use Rattle.pal_asm.specs.Listing.{Lists}
use Rattle.tpm_state.specs.Sessions.{Session, session_chain}
use Rattle.flk_hmac.specs.Quotes.{quote_of}
use Rattle.script_text.specs.Lines.{is_line_end, content, words}
use Rattle.script_text.specs.Verify.{Claim, verify_reading}
use Rattle.flk_filters.specs.declared.input.TheConstants.{MOST_INPUT}
use Rattle.flk_filters.specs.declared.filter.Filter.{Filter}
use Rattle.flk_filters.specs.declared.filter.Filter.TheVariants.{Asm, Dis, Measure, Verify}
use Rattle.flk_filters.specs.declared.fault.BadInput.{BadInput}
use Rattle.flk_filters.specs.declared.fault.BadInput.TheVariants.{TooLong, Hex, Assembly, NotImage, VerifyLine, Denied}

-- the most bytes that an input may have
abbrev pub most_input : ℕ
most_input = MOST_INPUT

-- the bytes, where there are no more than so many
abbrev pub at_most : ℕ → List ℕ → Result (List ℕ) BadInput
at_most most bytes = if nat_lt most (length bytes) then Err TooLong else Ok bytes

-- ---- hexadecimal

-- a space, a tab, CR or LF
abbrev pub is_space : ℕ → Bool
is_space c = c == 32 || c == 9 || c == 13 || c == 10

-- what is left of a text without its spaces
abbrev pub without_spaces : List ℕ → List ℕ
without_spaces text = filter (λ c. not (is_space c)) text

-- what digits spell, or that they spell nothing
abbrev pub or_bad_hex : {E : Type 0} → Result (List ℕ) E → Result (List ℕ) BadInput
or_bad_hex (Ok bytes) = Ok bytes
or_bad_hex (Err e) = Err Hex

-- the bytes that the digits of a text spell, two a byte; spaces may stand anywhere among them
abbrev pub hex_of : List ℕ → Result (List ℕ) BadInput
hex_of text = or_bad_hex (decode_of (without_spaces text))

-- the bytes that the digits of an input spell
abbrev pub hex_in : List ℕ → Result (List ℕ) BadInput
hex_in input = at_most most_input input >>= hex_of

-- ---- asm

-- a line of code's digits
abbrev pub code_line : Result (List ℕ) AsmFault → Result (List ℕ) BadInput
code_line (Ok code) = Ok (encode_lower code ++ codes "\n")
code_line (Err fault) = Err (Assembly fault)

-- the line that `asm` writes: the code of the text
abbrev pub assembly_text : List ℕ → Result (List ℕ) BadInput
assembly_text input = at_most most_input input >>= λ text. code_line (code_of text)

-- ---- dis

-- the code that `dis` lists
abbrev pub code_in : List ℕ → Result (List ℕ) BadInput
code_in input = hex_in input >>= at_most most_code

-- a listing of the code
abbrev pub IsListing : Result (List ℕ) BadInput → List ℕ → Type 0
IsListing (Ok code) text = Lists code text
IsListing (Err bad) text = text ≡ []

-- ---- measure

-- the image, where the bytes are one
abbrev pub or_no_image : List ℕ → Option ImageFault → Result (List ℕ) BadInput
or_no_image bytes None = Ok bytes
or_no_image bytes (Some fault) = Err (NotImage fault)

-- the image that `measure` measures
abbrev pub image_in : List ℕ → Result (List ℕ) BadInput
image_in input = hex_in input >>= λ bytes. or_no_image bytes (image_fault bytes)

-- what register 17 shows once a late launch has reset it and measured the image
abbrev pub launch_value : List ℕ → List ℕ
launch_value image = value (launch_chain ▷ image)

-- two lines: the digest of the image, and what register 17 shows after its launch
abbrev pub measures : List ℕ → List ℕ
measures image =
    codes "sha1 " ++ encode_lower (sha1 image) ++ codes "\n"
    ++ codes "launch " ++ encode_lower (launch_value image) ++ codes "\n"

-- the lines that `measure` writes
abbrev pub measure_text : List ℕ → Result (List ℕ) BadInput
measure_text input = image_in input >>= λ image. Ok (measures image)

-- ---- verify

-- an input without the LF at its end
abbrev pub without_line_end : List ℕ → List ℕ
without_line_end input =
    if is_line_end (slice_index input (length input - 1)) then take (length input - 1) input
    else input

-- what the line of `verify` claims
abbrev pub claim_in : List ℕ → Result Claim BadInput
claim_in input =
    at_most most_input input >>= λ text. ok_or (verify_reading (without_line_end text)) VerifyLine

-- the session that a line describes
abbrev pub session_of : Claim → Session
session_of claim = record {
  image = claim.image;
  texts = claim.texts;
  inputs = claim.inputs;
  outputs = claim.outputs;
  end = claim.end;
  nonce = claim.nonce;
}

-- the quote is that of the session, under the key for quotes and for the nonce
abbrev pub is_true : Claim → Bool
is_true claim =
    bytes_eq claim.quote (quote_of claim.key claim.nonce (value (session_chain (session_of claim))))

-- a line of its form may still claim what is not so
abbrev pub or_denied : Claim → Result Claim BadInput
or_denied claim = if is_true claim then Ok claim else Err Denied

-- the line that `verify` writes of a claim that is true
abbrev pub verify_text : List ℕ → Result (List ℕ) BadInput
verify_text input = claim_in input >>= or_denied >>= λ claim. Ok (codes "yes\n")

-- the line that it writes of one that is not
abbrev pub denial : List ℕ
denial = codes "no\n"

-- ---- each filter

-- the fault, if there is one
abbrev pub fault_of : {A : Type 0} → Result A BadInput → Option BadInput
fault_of (Ok x) = None
fault_of (Err bad) = Some bad

-- why the input is not of the filter's form, or that it claims what is not so
abbrev pub fault_in : Filter → List ℕ → Option BadInput
fault_in Asm input = fault_of (assembly_text input)
fault_in Dis input = fault_of (code_in input)
fault_in Measure input = fault_of (measure_text input)
fault_in Verify input = fault_of (verify_text input)

-- what there is without a fault
abbrev pub or_nothing : Result (List ℕ) BadInput → List ℕ
or_nothing (Ok text) = text
or_nothing (Err bad) = []

-- the filter writes this text of the input, and nothing where the input has a fault
abbrev pub Filters : Filter → List ℕ → List ℕ → Type 0
Filters Asm input text = text ≡ or_nothing (assembly_text input)
Filters Dis input text = IsListing (code_in input) text
Filters Measure input text = text ≡ or_nothing (measure_text input)
Filters Verify input text = text ≡ or_nothing (verify_text input)

-- ---- memory

-- memory may run out over an input only where it has none of the faults that are found before
-- anything is allocated: of an assembler text these are its length and what is wrong with its first
-- line that is not blank by itself, of code all, of an image those of its digits, of a line of
-- `verify` its length and that it has fewer than seven words
abbrev pub MayRunOut : Filter → List ℕ → Type 0
MayRunOut Asm input =
    IsOk (at_most most_input input) × IsOk (line_alone (first_tokens (lines input)))
MayRunOut Dis input = IsOk (code_in input)
MayRunOut Measure input = IsOk (hex_in input)
MayRunOut Verify input =
    IsOk (at_most most_input input) × (7 ≤ length (words (content (without_line_end input))))
