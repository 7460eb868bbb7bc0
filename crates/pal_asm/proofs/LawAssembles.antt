-- A listing assembles to the code that it lists.
use Rattle.std.proofs.Common.{◌≡◌, ℕ, ◌+◌, ◌<◌, ◌≤◌, List, [], ◌∷◌, ◌++◌, length, take, drop, refl, sym, ap, ◌∙◌, subst, arith, append_assoc, append-nil, pos}
use Rattle.std.specs.Prelude.{codes, decimal, slice_index, All, Some, Ok}
use Rattle.std.proofs.lemmas.List.{length-append, length-drop, length-take-le, take-append-drop, drop-drop, drop_more, drop_all}
use Rattle.i386_profile.specs.declared.ins.Ins.{Ins}
use Rattle.i386_profile.specs.Spelling.{Spells}
use Rattle.i386_profile.specs.Chosen.{chosen}
use Rattle.pal_asm.specs.declared.name.Name.{Name}
use Rattle.pal_asm.specs.declared.names.Mnemonic.TheVariants as m
use Rattle.pal_asm.specs.declared.operand.Operand.TheVariants.{Number}
use Rattle.pal_asm.specs.Lines.{lines}
use Rattle.pal_asm.specs.Statements.{Statement, most_code}
use Rattle.pal_asm.specs.Assembling.{most_end, PlacedStatement, Draft, code_start, no_lines, with_line, draft_of, bytes_with, code_with}
use Rattle.pal_asm.specs.Listing.{Met, Decoded, Lone, Meets, AreChosen, ins_text, text1, offset, text_of}
use Rattle.pal_asm.specs.Laws.{ListingAssembles}
use Rattle.pal_asm.proofs.LawOperands.{reads_number}
use Rattle.pal_asm.proofs.LawForms.{makes_byte}
use Rattle.pal_asm.proofs.LawStatements.{one_operand}
use Rattle.pal_asm.proofs.LawInstructions.{StandsFor, stands}
use Rattle.pal_asm.proofs.LawRanges.{spelled_in_range}
use Rattle.pal_asm.proofs.LawLines.{first_line, line_of, line_read, room}

-- ---- a text of lines

-- a draft with more statements after it, up to an offset
abbrev with_more : Draft → List PlacedStatement → ℕ → Draft
with_more before more end =
    record { labels = before.labels; placed = before.placed ++ more; end = end }

-- From this line and this offset on, the text gives the bytes, and has no fault.
record Assembles (n at : ℕ) (text bytes : List ℕ) : Type 0 where
  placed : List PlacedStatement
  drafted : (before : Draft) → before.end ≡ at
      → draft_of n before (lines text) ≡ Ok (with_more before placed (at + length bytes))
  coded : (labels : List (Name × ℕ)) → code_with labels placed ≡ Ok bytes

-- the empty line at the end
at_end : (n at : ℕ) → at ≤ most_end → Assembles n at [] []
at_end n at le = record { placed = []; drafted = drafts; coded = λ labels. refl } where
  drafts : (before : Draft) → before.end ≡ at
      → draft_of n before (lines []) ≡ Ok (with_more before [] (at + 0))
  drafts before e =
      let fits = room before.end 0 (omega (arith, e, le)) in
      rw fits (rw (append-nil before.placed, e) refl)

-- ---- one more line

abbrev here : ℕ → ℕ → Statement → PlacedStatement
here n at s = record { line = n; at = at; statement = s }

bytes_are : (at : ℕ) (text bytes : List ℕ) (labels : List (Name × ℕ)) (s : StandsFor at text bytes)
    → bytes_with labels at s.makes.statement ≡ Some bytes
bytes_are at text bytes labels s = rw (s.makes.alone, s.makes.gives) refl

-- a draft with one more statement, and more after it
one_more : (n at : ℕ) (s : Statement) (before : Draft) (more : List PlacedStatement) (end : ℕ)
    → before.end ≡ at
    → with_more (with_line n before (line_of s)) more end
    ≡ with_more before (here n at s ∷ more) end
one_more n at s before more end e =
    ap (λ x. with_placed x) (append_assoc before.placed (here n before.end s ∷ []) more)
    ∙ ap (λ x. with_placed (before.placed ++ here n x s ∷ more)) e
  where
    with_placed : List PlacedStatement → Draft
    with_placed ps = record { labels = before.labels; placed = ps; end = end }

drafted_by : (n at : ℕ) (text more bytes rest : List ℕ) (s : StandsFor at text bytes)
    (a : Assembles (n + 1) (at + length bytes) more rest)
    → at + length bytes ≤ most_end → (before : Draft) → before.end ≡ at
    → draft_of n before (lines (text ++ codes "\n" ++ more))
    ≡ Ok (with_more before (here n at s.makes.statement ∷ a.placed)
    (at + length (bytes ++ rest)))
drafted_by n at text more bytes rest s a le before e =
    let read =
    line_read at text bytes s.word s.operands s.spoken s.makes before (omega (arith, e, le)) in
    let next = with_line n before (line_of s.makes.statement) in
    let ended : next.end ≡ at + length bytes = omega (arith, e, s.makes.size) in
    let same : at + length bytes + length rest ≡ at + length (bytes ++ rest) =
    omega (arith, length-append bytes rest) in
    let first : draft_of n before (lines (text ++ codes "\n" ++ more))
    ≡ draft_of (n + 1) next (lines more) =
    ap (draft_of n before) (first_line text more s.spoken.plain) ∙ rw read refl in
    first ∙ a.drafted next ended
    ∙ ap Ok (one_more n at s.makes.statement before a.placed
    (at + length bytes + length rest) e)
    ∙ ap (λ x. Ok (with_more before (here n at s.makes.statement ∷ a.placed) x)) same

one_line : (n at : ℕ) (text more bytes rest : List ℕ) → StandsFor at text bytes
    → Assembles (n + 1) (at + length bytes) more rest
    → at + length bytes ≤ most_end
    → Assembles n at (text ++ codes "\n" ++ more) (bytes ++ rest)
one_line n at text more bytes rest s a le =
    record {
      placed = here n at s.makes.statement ∷ a.placed;
      drafted = drafted_by n at text more bytes rest s a le;
      coded = λ labels. rw (bytes_are at text bytes labels s, a.coded labels) refl;
    }

-- ---- what a listing meets

code_from : (code : List ℕ) (position k : ℕ) (bytes : List ℕ) → take k (drop position code) ≡ bytes
    → bytes ++ drop (position + k) code ≡ drop position code
code_from code position k bytes e =
    ap (λ xs. xs ++ drop (position + k) code) (sym e)
    ∙ ap (λ xs. take k (drop position code) ++ xs) (sym (drop-drop k position code))
    ∙ take-append-drop k (drop position code)

with_instruction : (position k n : ℕ) (code more : List ℕ) (ins : Ins) → length code ≤ most_code
    → position < length code → k ≤ length (drop position code)
    → Spells ins (take k (drop position code)) → take k (drop position code) ≡ chosen ins
    → Assembles (n + 1) (code_start + (position + k)) more (drop (position + k) code)
    → Assembles n (code_start + position) (ins_text (offset (position + k)) ins ++ codes "\n"
    ++ more) (drop position code)
with_instruction position k n code more ins small lt le spelled e a =
    let size : length (chosen ins) ≡ k =
    ap length (sym e) ∙ length-take-le k (drop position code) le in
    let next : code_start + (position + k) ≡ code_start + position + length (chosen ins) =
    omega arith in
    let s = stands (code_start + position) (code_start + (position + k)) ins
    (spelled_in_range ins (take k (drop position code)) spelled) next in
    let there : Assembles (n + 1) (code_start + position + length (chosen ins)) more
    (drop (position + k) code) =
    subst (λ at. Assembles (n + 1) at more (drop (position + k) code)) next a in
    let fits : code_start + position + length (chosen ins) ≤ most_end =
    omega (arith, length-drop position code) in
    subst (λ bytes. Assembles n (code_start + position)
    (ins_text (offset (position + k)) ins ++ codes "\n" ++ more) bytes)
    (code_from code position k (chosen ins) e)
    (one_line n (code_start + position) (ins_text (offset (position + k)) ins) more (chosen ins)
    (drop (position + k) code) s there fits)

byte_stands : (at byte : ℕ) → byte < 256 → StandsFor at (text1 m.Byte (decimal byte)) (byte ∷ [])
byte_stands at byte lt =
    record {
      word = m.Byte;
      operands = Number (pos byte) ∷ [];
      spoken = one_operand m.Byte (decimal byte) (Number (pos byte))
          (reads_number byte (omega arith));
      makes = makes_byte at byte lt;
    }

with_byte : (position n byte : ℕ) (code more : List ℕ) → length code ≤ most_code
    → position < length code → byte < 256 → byte ≡ slice_index code position
    → Assembles (n + 1) (code_start + (position + 1)) more (drop (position + 1) code)
    → Assembles n (code_start + position) (text1 m.Byte (decimal byte) ++ codes "\n" ++ more)
    (drop position code)
with_byte position n byte code more small lt low e a =
    let next : code_start + (position + 1) ≡ code_start + position + 1 = omega arith in
    let there : Assembles (n + 1) (code_start + position + 1) more (drop (position + 1) code) =
    subst (λ at. Assembles (n + 1) at more (drop (position + 1) code)) next a in
    let all : byte ∷ drop (position + 1) code ≡ drop position code =
    ap (λ b. b ∷ drop (position + 1) code) e ∙ sym (drop_more code position 0 lt) in
    let s = byte_stands (code_start + position) byte low in
    subst (λ bytes. Assembles n (code_start + position)
    (text1 m.Byte (decimal byte) ++ codes "\n" ++ more) bytes) all
    (one_line n (code_start + position) (text1 m.Byte (decimal byte)) more (byte ∷ [])
    (drop (position + 1) code) s there (omega arith))

listed : (met : List Met) (position n : ℕ) (code : List ℕ) → length code ≤ most_code
    → All (λ byte. byte < 256) code → Meets position met code
    → AreChosen position met code
    → Assembles n (code_start + position) (text_of position met) (drop position code)
listed [] position n code small low g h =
    subst (λ bytes. Assembles n (code_start + position) [] bytes)
    (sym (drop_all position code (omega (arith, g))))
    (at_end n (code_start + position) (omega (arith, g)))
listed (Decoded ins k ∷ met) position n code small low g h =
    with_instruction position k n code (text_of (position + k) met) ins small g.0 g.1.0 g.1.1 h.0
    (listed met (position + k) (n + 1) code small low g.2 h.1)
listed (Lone byte ∷ met) position n code small low g h =
    let fits : byte < 256 = subst (λ b. b < 256) (sym g.2) (low position 0 g.0) in
    with_byte position n byte code (text_of (position + 1) met) small g.0 fits g.2
    (listed met (position + 1) (n + 1) code small low g.3 h)

pub listing_assembles : ListingAssembles
listing_assembles code met small low g h =
    let a = listed met 0 1 code small low g h in
    rw (a.drafted no_lines refl) (a.coded [])
