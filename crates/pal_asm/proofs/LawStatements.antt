-- The text of a statement is read as its word and its operands.
use Rattle.std.proofs.Common.{◌≡◌, ℕ, Bool, true, false, List, [], ◌∷◌, ◌++◌, refl, ap, ◌∙◌, append_assoc}
use Rattle.std.specs.Prelude.{codes, Some}
use Rattle.std.specs.List.{list_all, list_any, slice_split}
use Rattle.std.proofs.lemmas.List.Splits.{slice_split_at, slice_split_none}
use Rattle.pal_asm.specs.declared.names.Mnemonic.{Mnemonic}
use Rattle.pal_asm.specs.declared.operand.Operand.{Operand}
use Rattle.pal_asm.specs.Tokens.{Token, Word, Open, Comma, tokens, is_comma}
use Rattle.pal_asm.specs.Names.{mnemonic_name}
use Rattle.pal_asm.specs.Operands.{operand_of, all_operands, operands_of}
use Rattle.pal_asm.specs.Listing.{text0, text1, text2}
use Rattle.pal_asm.proofs.LawTokens.{none_from_test, tokens_append, tokens_word, tokens_word_then}
use Rattle.pal_asm.proofs.LawWords.{is_plain, plain_word, plain_append, mnemonic_word}
use Rattle.pal_asm.proofs.LawOperands.{Reads, begins_operand}

-- no tokens, or an operand's
abbrev pub ends_or_begins : List Token → Bool
ends_or_begins [] = true
ends_or_begins (t ∷ ts) = begins_operand (t ∷ ts)

-- The text is read as the word with these operands, and no line ends and no comment begins in it.
pub record Spoken (text : List ℕ) (word : Mnemonic) (os : List Operand) : Type 0 where
  pub after : List Token
  pub is : tokens text ≡ Word (mnemonic_name word) ∷ after
  pub begins : ends_or_begins after ≡ true
  pub operands : operands_of after ≡ Some os
  pub plain : list_all is_plain text ≡ true

plain_name : (word : Mnemonic) → list_all is_plain (mnemonic_name word) ≡ true
plain_name word = plain_word (mnemonic_name word) (mnemonic_word word).all

pub no_operand : (word : Mnemonic) → Spoken (text0 word) word []
no_operand word =
    record {
      after = [];
      is = tokens_word (mnemonic_name word) (mnemonic_word word);
      begins =
          refl;
      operands = refl;
      plain = plain_name word;
    }

-- a word, a space, and more
word_and_more : (word : Mnemonic) (more : List ℕ)
    → tokens (mnemonic_name word ++ (codes " " ++ more)) ≡ Word (mnemonic_name word) ∷ tokens more
word_and_more word more =
    tokens_word_then (mnemonic_name word) (codes " " ++ more) (mnemonic_word word) refl

plain_after : (word : Mnemonic) (more : List ℕ) → list_all is_plain more ≡ true
    → list_all is_plain (mnemonic_name word ++ (codes " " ++ more)) ≡ true
plain_after word more h = plain_append (mnemonic_name word) (codes " " ++ more) (plain_name word) h

-- ---- one operand

split_of : (ts : List Token) → begins_operand ts ≡ true
    → operands_of ts ≡ all_operands (slice_split is_comma ts)
split_of [] h = cc
split_of (t ∷ ts) h = refl

begins_too : (ts : List Token) → begins_operand ts ≡ true → ends_or_begins ts ≡ true
begins_too [] h = cc
begins_too (t ∷ ts) h = h

one_piece : (ts : List Token) (o : Operand) → begins_operand ts ≡ true
    → list_any is_comma ts ≡ false → operand_of ts ≡ Some o
    → operands_of ts ≡ Some (o ∷ [])
one_piece ts o b c e = split_of ts b
    ∙ ap all_operands (slice_split_none is_comma ts (none_from_test is_comma ts c)) ∙ rw e refl

pub one_operand : (word : Mnemonic) (a : List ℕ) (o : Operand) → Reads a o
    → Spoken (text1 word a) word (o ∷ [])
one_operand word a o r =
    let whole : text1 word a ≡ mnemonic_name word ++ (codes " " ++ a) =
    append_assoc (mnemonic_name word) (codes " ") a in
    record {
      after = r.pieces;
      is = ap tokens whole ∙ word_and_more word a ∙ ap (λ ts. Word (mnemonic_name word) ∷ ts) r.is;
      begins = begins_too r.pieces r.begins;
      operands = one_piece r.pieces o r.begins r.one r.operand;
      plain = ap (list_all is_plain) whole ∙ plain_after word a r.plain;
    }

-- ---- two operands

begins_first : (ts us : List Token) → begins_operand ts ≡ true → begins_operand (ts ++ us) ≡ true
begins_first [] us h = cc
begins_first (Word w ∷ ts) us h = refl
begins_first (Open ∷ ts) us h = refl
begins_first (_ ∷ ts) us h = cc

two_pieces : (ts us : List Token) (o p : Operand) → begins_operand ts ≡ true
    → list_any is_comma ts ≡ false → list_any is_comma us ≡ false
    → operand_of ts ≡ Some o → operand_of us ≡ Some p
    → operands_of (ts ++ Comma ∷ us) ≡ Some (o ∷ p ∷ [])
two_pieces ts us o p b c d e f =
    split_of (ts ++ Comma ∷ us) (begins_first ts (Comma ∷ us) b)
    ∙ ap all_operands (slice_split_at is_comma ts Comma us (none_from_test is_comma ts c) refl)
    ∙ ap (λ xs. all_operands (ts ∷ xs)) (slice_split_none is_comma us
    (none_from_test is_comma us d))
    ∙ rw (e, f) refl

pub two_operands : (word : Mnemonic) (a b : List ℕ) (o p : Operand) → Reads a o → Reads b p
    → Spoken (text2 word a b) word (o ∷ p ∷ [])
two_operands word a b o p r s =
    let more = a ++ (codes ", " ++ b) in
    let whole : text2 word a b ≡ mnemonic_name word ++ (codes " " ++ more) = simp append_assoc in
    let pair : tokens more ≡ r.pieces ++ Comma ∷ s.pieces =
    tokens_append a (codes ", " ++ b) refl ∙ ap (λ ts. ts ++ Comma ∷ tokens b) r.is
    ∙ ap (λ ts. r.pieces ++ Comma ∷ ts) s.is in
    record {
      after = r.pieces ++ Comma ∷ s.pieces;
      is = ap tokens whole ∙ word_and_more word more
          ∙ ap (λ ts. Word (mnemonic_name word) ∷ ts) pair;
      begins = begins_too (r.pieces ++ Comma ∷ s.pieces)
          (begins_first r.pieces (Comma ∷ s.pieces) r.begins);
      operands = two_pieces r.pieces s.pieces o p r.begins r.one s.one r.operand s.operand;
      plain = ap (list_all is_plain) whole
          ∙ plain_after word more (plain_append a (codes ", " ++ b) r.plain s.plain);
    }
