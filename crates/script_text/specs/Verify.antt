-- The line of `verify`: the words KEY QUOTE IMAGE IN OUT END NONCE TEXT*, what they claim, and how it
-- is read.
use Rattle.std.specs.Prelude.{◌≡◌, ℕ, ◌≤◌, ◌==◌, nat_le, List, [], ◌∷◌, length, Option, Some, None, option_and_then, Result, Ok, Err, if◌then◌else◌}
use Rattle.std.specs.Result.{result_ok}
use Rattle.std.specs.FinMap.{empty}
use Rattle.expr_text.specs.Numbers.{number_of}
use Rattle.expr_text.specs.Expressions.{Term, SpellsExpression}
use Rattle.expr_text.specs.ExpressionReading.{all_of, expression_of}
use Rattle.expr_text.specs.Values.{value_of}
use Rattle.script_text.specs.Lines.{words, content}
use Rattle.script_text.specs.declared.verify.LineWords.{LineWords}
use Rattle.script_text.specs.declared.verify.VerifyLine.{VerifyLine}
use Rattle.script_text.specs.declared.verify.VerifyFault.{VerifyFault}
use Rattle.script_text.specs.declared.verify.VerifyFault.TheVariants.{Form, NoMemory}

-- what the line claims: that under this key for quotes and for this nonce, the quote is that of a
-- session of the image with these inputs and outputs, which ended so, and whose code extended
-- register 17 by these texts
pub record Claim : Type 0 where
  pub key : List ℕ
  pub quote : List ℕ
  pub image : List ℕ
  pub inputs : List ℕ
  pub outputs : List ℕ
  pub end : ℕ
  pub nonce : List ℕ
  pub texts : List (List ℕ)

-- ---- the grammar

-- the word spells an expression with this value where no name is bound
pub record SpellsValue (bytes word : List ℕ) : Type 0 where
  pub terms : List Term
  pub spelled : SpellsExpression terms word
  pub worth : value_of terms empty ≡ Ok bytes

-- the word spells an expression whose value is these 20 bytes
pub record SpellsTwenty (bytes word : List ℕ) : Type 0 where
  pub value : SpellsValue bytes word
  pub twenty : length bytes ≡ 20

-- the word is a Number from 0 to 255
pub record SpellsByte (byte : ℕ) (word : List ℕ) : Type 0 where
  pub number : number_of word ≡ Some byte
  pub small : byte ≤ 255

-- each word spells its value, and there are as many words as values
abbrev pub SpellsValues : List (List ℕ) → List (List ℕ) → Type 0
SpellsValues [] [] = Unit {0}
SpellsValues [] (word ∷ others) = ⊥
SpellsValues (bytes ∷ values) [] = ⊥
SpellsValues (bytes ∷ values) (word ∷ others) =
    SpellsValue bytes word × SpellsValues values others

-- the words claim this: seven, and one for each text
abbrev pub SpellsClaim : Claim → List (List ℕ) → Type 0
SpellsClaim claim (key ∷ quote ∷ image ∷ inputs ∷ outputs ∷ end ∷ nonce ∷ texts) =
    SpellsTwenty claim.key key
    × SpellsValue claim.quote quote
    × SpellsValue claim.image image
    × SpellsValue claim.inputs inputs
    × SpellsValue claim.outputs outputs
    × SpellsByte claim.end end
    × SpellsTwenty claim.nonce nonce
    × SpellsValues claim.texts texts
SpellsClaim claim fewer = ⊥

-- the line, without its LF, claims this
abbrev pub SpellsVerify : Claim → List ℕ → Type 0
SpellsVerify claim line = SpellsClaim claim (words (content line))

-- ---- how it is read

infixl 10 ◌>>?◌
-- the second reading, where the first gave something
abbrev pub ◌>>?◌ : {A B : Type 0} → Option A → (A → Option B) → Option B
read >>? next = option_and_then next read

-- the value of the expression that a word spells
abbrev pub value_in : List ℕ → Option (List ℕ)
value_in word = expression_of word >>? λ terms. result_ok (value_of terms empty)

-- the value, if it has 20 bytes
abbrev pub if_twenty : List ℕ → Option (List ℕ)
if_twenty bytes = if length bytes == 20 then Some bytes else None

-- the 20 bytes of a word
abbrev pub twenty_in : List ℕ → Option (List ℕ)
twenty_in word = value_in word >>? if_twenty

-- the number, if it is a byte
abbrev pub if_byte : ℕ → Option ℕ
if_byte number = if nat_le number 255 then Some number else None

-- the byte of a word
abbrev pub byte_in : List ℕ → Option ℕ
byte_in word = number_of word >>? if_byte

-- what words claim
abbrev pub claim_in : List (List ℕ) → Option Claim
claim_in (key ∷ quote ∷ image ∷ inputs ∷ outputs ∷ end ∷ nonce ∷ texts) =
    twenty_in key >>? λ key.
    value_in quote >>? λ quote.
    value_in image >>? λ image.
    value_in inputs >>? λ inputs.
    value_in outputs >>? λ outputs.
    byte_in end >>? λ end.
    twenty_in nonce >>? λ nonce.
    all_of value_in texts >>? λ texts.
    Some (record {
      key = key;
      quote = quote;
      image = image;
      inputs = inputs;
      outputs = outputs;
      end = end;
      nonce = nonce;
      texts = texts;
    })
claim_in fewer = None

-- what a line, without its LF, claims
abbrev pub verify_reading : List ℕ → Option Claim
verify_reading line = claim_in (words (content line))

-- ---- what contracts see

-- all the words of a line
abbrev pub all_words : LineWords → List (List ℕ)
all_words line =
    line.key.now
    ∷ line.quote.now
    ∷ line.image.now
    ∷ line.inputs.now
    ∷ line.outputs.now
    ∷ line.end.now
    ∷ line.nonce.now
    ∷ line.texts

-- what a line that was read claims
abbrev pub claim_of : VerifyLine → Claim
claim_of line = record {
  key = line.key;
  quote = line.quote.bytes;
  image = line.image.bytes;
  inputs = line.inputs.bytes;
  outputs = line.outputs.bytes;
  end = line.end;
  nonce = line.nonce;
  texts = line.texts;
}

-- what a reader returned, seen by view, is what there is to read, unless memory ran out
abbrev pub ReadsAs : {X Y : Type 0} → (X → Y) → Result X VerifyFault → Option Y → Type 0
ReadsAs view (Ok x) read = read ≡ Some (view x)
ReadsAs view (Err Form) read = read ≡ None
ReadsAs view (Err NoMemory) read = Unit {0}
