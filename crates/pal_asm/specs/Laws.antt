-- What holds of assembling and listing together.
use Rattle.std.specs.Prelude.{◌≡◌, ℕ, ◌+◌, ◌≤◌, ◌<◌, ◌^◌, All, List, length, Ok}
use Rattle.pal_asm.specs.Statements.{most_code}
use Rattle.pal_asm.specs.declared.name.Name.{Name}
use Rattle.pal_asm.specs.Assembling.{Draft, code_start, no_lines, draft_of, code_with, code_of}
use Rattle.pal_asm.specs.Listing.{Met, Meets, AreChosen, Lists, text_of}

-- The offset that some lines reach is 32 plus the length of their code: so a label's value, which
-- is the offset that the lines before it reach, is the offset in the segment of what follows it.
abbrev pub OffsetsAreLengths : Type 0
OffsetsAreLengths = (ls : List (List ℕ)) (draft : Draft) (labels : List (Name × ℕ)) (code : List ℕ)
    → draft_of 1 no_lines ls ≡ Ok draft → code_with labels draft.placed ≡ Ok code
    → draft.end ≡ code_start + length code

-- Every code has a listing.
abbrev pub EachIsListed : Type 0
EachIsListed = (code : List ℕ) → All (λ byte. byte < 256) code → (text : List ℕ) × Lists code text

-- Code has one listing.
abbrev pub OneListing : Type 0
OneListing = (code a b : List ℕ) → Lists code a → Lists code b → a ≡ b

-- A listing of code of at most 49,120 bytes is short enough for `assemble`.
abbrev pub ListingIsShort : Type 0
ListingIsShort = (code : List ℕ) (met : List Met) → length code ≤ most_code → Meets 0 met code
    → length (text_of 0 met) < 2 ^ 32

-- Code of at most 49,120 bytes whose instructions stand in their chosen spellings is what its
-- listing assembles to.
abbrev pub ListingAssembles : Type 0
ListingAssembles = (code : List ℕ) (met : List Met)
    → length code ≤ most_code → All (λ byte. byte < 256) code → Meets 0 met code
    → AreChosen 0 met code → code_of (text_of 0 met) ≡ Ok code
