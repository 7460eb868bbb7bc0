-- The lines of a listing are read as its statements.
use Rattle.std.proofs.Common.{◌≡◌, ℕ, ◌+◌, ◌-◌, ◌≤◌, true, false, not, List, [], ◌∷◌, ◌++◌, length, get_or, refl, ap, ◌∙◌, arith, append_assoc}
use Rattle.std.specs.Prelude.{◌==◌, codes, nat_lt, Some, None, Ok}
use Rattle.std.specs.List.{list_all, prefix_len}
use Rattle.std.proofs.lemmas.Bool.Decides.{nat_tests}
use Rattle.std.proofs.lemmas.List.{take_all}
use Rattle.std.proofs.lemmas.List.Elements.{All-weaker}
use Rattle.std.proofs.lemmas.List.Splits.{slice_split_at}
use Rattle.pal_asm.specs.declared.names.Mnemonic.{Mnemonic}
use Rattle.pal_asm.specs.declared.operand.Operand.{Operand}
use Rattle.pal_asm.specs.Tokens.{Token, Word, Open, tokens}
use Rattle.pal_asm.specs.Lines.{is_line_end, lines, content, without_comment}
use Rattle.pal_asm.specs.Names.{mnemonic_name}
use Rattle.pal_asm.specs.Statements.{Statement, size_of}
use Rattle.pal_asm.specs.Assembling.{most_end, Line, Draft, line_tokens, label_in, word_in, statement_in, line_in}
use Rattle.pal_asm.proofs.LawTokens.{all_from_test, and_left, and_right}
use Rattle.pal_asm.proofs.LawWords.{is_plain, mnemonic_known}
use Rattle.pal_asm.proofs.LawForms.{Makes}
use Rattle.pal_asm.proofs.LawStatements.{Spoken, ends_or_begins}

-- ---- a text without ends of lines and semicolons

no_end : (c : ℕ) → is_plain c ≡ true → is_line_end c ≡ false
no_end c h = grind (arith, nat_tests)

no_return : (c : ℕ) → is_plain c ≡ true → (c == 13) ≡ false
no_return c h = grind (arith, nat_tests)

no_semicolon : (c : ℕ) → is_plain c ≡ true → not (c == 59) ≡ true
no_semicolon c h = grind (arith, nat_tests)

-- it is a line
pub first_line : (text more : List ℕ) → list_all is_plain text ≡ true
    → lines (text ++ codes "\n" ++ more) ≡ text ∷ lines more
first_line text more h =
    let ends =
    All-weaker (λ c. is_plain c ≡ true) (λ c. is_line_end c ≡ false) no_end text
    (all_from_test is_plain text h) in
    ap lines (append_assoc text (codes "\n") more)
    ∙ slice_split_at is_line_end text 10 more ends refl

no_return_at : (text : List ℕ) → list_all is_plain text ≡ true → (k : ℕ)
    → (get_or text k 0 == 13) ≡ false
no_return_at [] h k = refl
no_return_at (c ∷ cs) h ℕ.zero = no_return c (and_left (is_plain c) (list_all is_plain cs) h)
no_return_at (c ∷ cs) h (ℕ.suc k) =
    no_return_at cs (and_right (is_plain c) (list_all is_plain cs) h) k

whole_content : (text : List ℕ) → list_all is_plain text ≡ true → content text ≡ text
whole_content text h = rw (no_return_at text h (length text - 1)) refl

no_comment : (text : List ℕ) → list_all is_plain text ≡ true
    → prefix_len (λ c. not (c == 59)) text ≡ length text
no_comment [] h = refl
no_comment (c ∷ cs) h =
    let here = no_semicolon c (and_left (is_plain c) (list_all is_plain cs) h) in
    let after : prefix_len (λ c. not (c == 59)) cs ≡ length cs =
    no_comment cs (and_right (is_plain c) (list_all is_plain cs) h) in
    rw here (omega arith)

whole_line : (text : List ℕ) → list_all is_plain text ≡ true → without_comment text ≡ text
whole_line text h = rw (no_comment text h) (take_all (length text) text (omega arith))

-- nothing of it is dropped
pub plain_tokens : (text : List ℕ) → list_all is_plain text ≡ true → line_tokens text ≡ tokens text
plain_tokens text h = ap tokens (ap without_comment (whole_content text h) ∙ whole_line text h)

-- ---- a line of a statement

no_label : (w : List ℕ) (ts : List Token) → ends_or_begins ts ≡ true
    → label_in (Word w ∷ ts) ≡ Ok (None, Word w ∷ ts)
no_label w [] h = refl
no_label w (Word v ∷ ts) h = refl
no_label w (Open ∷ ts) h = refl
no_label w (_ ∷ ts) h = cc

word_first : (word : Mnemonic) (ts : List Token)
    → word_in (Word (mnemonic_name word) ∷ ts) ≡ Ok (Some (word, ts))
word_first word ts = rw (mnemonic_known word) refl

statement_read : (at : ℕ) (text bytes : List ℕ) (word : Mnemonic) (os : List Operand)
    (s : Spoken text word os) (m : Makes at word os bytes)
    → statement_in (Some (word, s.after)) ≡ Ok (Some m.statement)
statement_read at text bytes word os s m = rw (s.operands, m.made, m.in_range) refl

pub room : (end size : ℕ) → end + size ≤ most_end
    → nat_lt (most_end) (end + size) ≡ false
room end size le = grind (arith, nat_tests)

-- the line of these has no label and this statement
abbrev pub line_of : Statement → Line
line_of s = record { label = None; statement = Some s }

pub line_read : (at : ℕ) (text bytes : List ℕ) (word : Mnemonic) (os : List Operand)
    (s : Spoken text word os) (m : Makes at word os bytes) (before : Draft)
    → before.end + length bytes ≤ most_end
    → line_in before (line_tokens text) ≡ Ok (line_of m.statement)
line_read at text bytes word os s m before le =
    let whole : line_tokens text ≡ Word (mnemonic_name word) ∷ s.after =
    plain_tokens text s.plain ∙ s.is in
    let fits = room before.end (size_of m.statement) (omega (arith, m.size, le)) in
    rw (
      whole,
      no_label (mnemonic_name word) s.after s.begins,
      word_first word s.after,
      statement_read at text bytes word os s m,
      fits,
    ) refl
