-- Each operand's text is read as that operand.
use Rattle.std.proofs.Common.{◌≡◌, ℕ, ◌^◌, ◌<◌, Bool, true, false, List, [], ◌∷◌, ◌++◌, refl, ap, pos}
use Rattle.std.specs.Prelude.{codes, decimal, Some, None, option_map}
use Rattle.std.specs.Fmt.{digits}
use Rattle.std.specs.List.{list_all, list_any}
use Rattle.i386_profile.specs.declared.operands.Reg.{Reg}
use Rattle.i386_profile.specs.declared.operands.ByteReg.{ByteReg}
use Rattle.i386_profile.specs.declared.operands.Mem.{Mem}
use Rattle.pal_asm.specs.declared.operand.Operand.{Operand}
use Rattle.pal_asm.specs.declared.operand.Operand.TheVariants.{Register, ByteRegister, Number, Memory, Dword, Byte}
use Rattle.pal_asm.specs.Tokens.{Token, Word, Open, tokens, is_comma}
use Rattle.pal_asm.specs.Numbers.{number_of}
use Rattle.pal_asm.specs.Names.{register_name, byte_register_name, register_of, byte_register_of}
use Rattle.pal_asm.specs.Operands.{word_operand, operand_of}
use Rattle.pal_asm.specs.Listing.{memory_text}
use Rattle.pal_asm.proofs.LawNumbers.{decimal_read, decimal_text, hexadecimal_read, hexadecimal_words}
use Rattle.pal_asm.proofs.LawTokens.{IsWord, tokens_word}
use Rattle.pal_asm.proofs.LawWords.{is_plain, plain_word, register_word, register_known, byte_register_word, no_register_of_byte, byte_register_known, no_register, no_byte_register}
use Rattle.pal_asm.proofs.LawPlaces.{ReadsPlace, decimal_word}

-- a word or an opening bracket stands first
abbrev pub begins_operand : List Token → Bool
begins_operand (Word w ∷ rest) = true
begins_operand (Open ∷ rest) = true
begins_operand _ = false

-- The text is read as the operand: its tokens have no comma, and no line ends and no comment begins
-- in it.
pub record Reads (text : List ℕ) (o : Operand) : Type 0 where
  pub pieces : List Token
  pub is : tokens text ≡ pieces
  pub begins : begins_operand pieces ≡ true
  pub one : list_any is_comma pieces ≡ false
  pub operand : operand_of pieces ≡ Some o
  pub plain : list_all is_plain text ≡ true

-- ---- words

word_reads : (text : List ℕ) (o : Operand) → IsWord text → word_operand text ≡ Some o → Reads text o
word_reads text o w e =
    record {
      pieces = Word text ∷ [];
      is = tokens_word text w;
      begins = refl;
      one = refl;
      operand =
          e;
      plain = plain_word text w.all;
    }

register_operand : (r : Reg) → word_operand (register_name r) ≡ Some (Register r)
register_operand r = rw (register_known r) refl

pub reads_register : (r : Reg) → Reads (register_name r) (Register r)
reads_register r = word_reads (register_name r) (Register r) (register_word r) (register_operand r)

byte_register_operand : (b : ByteReg) → word_operand (byte_register_name b) ≡ Some (ByteRegister b)
byte_register_operand b = rw (no_register_of_byte b, byte_register_known b) refl

pub reads_byte_register : (b : ByteReg) → Reads (byte_register_name b) (ByteRegister b)
reads_byte_register b =
    word_reads (byte_register_name b) (ByteRegister b) (byte_register_word b)
    (byte_register_operand b)

number_operand : (text : List ℕ) (n : ℕ) → register_of text ≡ None → byte_register_of text ≡ None
    → number_of text ≡ Some n
    → word_operand text ≡ Some (Number (pos n))
number_operand text n e f g = rw (e, f, g) refl

pub reads_number : (n : ℕ) → n < 2 ^ 32 → Reads (decimal n) (Number (pos n))
reads_number n lt =
    let d = decimal_text n lt in
    word_reads (decimal n) (Number (pos n)) (decimal_word n lt)
    (number_operand (decimal n) n (no_register (decimal n) d) (no_byte_register (decimal n) d)
    (decimal_read n lt))

pub reads_offset : (n : ℕ) → n < 2 ^ 32 → Reads (codes "0x" ++ digits 16 false n) (Number (pos n))
reads_offset n lt =
    word_reads (codes "0x" ++ digits 16 false n) (Number (pos n)) (record {
      begins = refl;
      all =
          hexadecimal_words n lt;
    })
    (number_operand (codes "0x" ++ digits 16 false n) n refl refl (hexadecimal_read n lt))

-- ---- places

pub reads_memory : (m : Mem) (r : ReadsPlace m.base m.disp) → Reads (memory_text m) (Memory r.place)
reads_memory m r =
    record {
      pieces = Open ∷ r.inside;
      is = r.is;
      begins = refl;
      one = r.one;
      operand =
          ap (option_map Memory) r.found;
      plain = r.plain;
    }

pub reads_dword : (m : Mem) (r : ReadsPlace m.base m.disp)
    → Reads (codes "dword " ++ memory_text m) (Dword r.place)
reads_dword m r =
    record {
      pieces = Word (codes "dword") ∷ Open ∷ r.inside;
      is = ap (λ ts. Word (codes "dword") ∷ ts) r.is;
      begins = refl;
      one = r.one;
      operand = ap (option_map Dword) r.found;
      plain = r.plain;
    }

pub reads_byte : (m : Mem) (r : ReadsPlace m.base m.disp)
    → Reads (codes "byte " ++ memory_text m) (Byte r.place)
reads_byte m r =
    record {
      pieces = Word (codes "byte") ∷ Open ∷ r.inside;
      is = ap (λ ts. Word (codes "byte") ∷ ts) r.is;
      begins = refl;
      one = r.one;
      operand = ap (option_map Byte) r.found;
      plain = r.plain;
    }
