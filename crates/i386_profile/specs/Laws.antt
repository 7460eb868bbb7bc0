-- What holds of spellings as a whole.
use Rattle.std.specs.Prelude.{◌≡◌, ℕ, ◌<◌, ◌≤◌, ◌^◌, length, List, ◌++◌}
use Rattle.i386_profile.specs.declared.operands.Rm.{Rm}
use Rattle.i386_profile.specs.declared.operands.Rm.TheVariants as rms
use Rattle.i386_profile.specs.declared.ins.Ins.{Ins}
use Rattle.i386_profile.specs.declared.ins.Ins.TheVariants.{Load, Put, MovTo, MovFrom, ByteTo, ByteFrom, Widen, Lea, Alu, AluFrom, AluImm, Test, PushImm, Shift, Imul, Unary, Jmp, Jcc, Call, Gate}
use Rattle.i386_profile.specs.Spelling.{Spells, Begins}
use Rattle.i386_profile.specs.Chosen.{chosen}

-- No spelling is a proper prefix of another, and no bytes spell two instructions.
abbrev pub OneSpelling : Type 0
OneSpelling = (i j : Ins) (a b x y : List ℕ) → Spells i a → Spells j b → a ++ x ≡ b ++ y
    → (a ≡ b) × (i ≡ j)

-- the displacement of an operand has 32 bits
abbrev pub IsRmInRange : Rm → Type 0
IsRmInRange (rms.Reg r) = Unit {0}
IsRmInRange (rms.Mem m) = m.disp < 2 ^ 32

-- the numbers of an instruction lie in the ranges of their types, as those of every `Ins` do
abbrev pub IsInRange : Ins → Type 0
IsInRange (Load r n) = n < 2 ^ 32
IsInRange (Put m n) = (m.disp < 2 ^ 32) × (n < 2 ^ 32)
IsInRange (MovTo rm r) = IsRmInRange rm
IsInRange (MovFrom r m) = m.disp < 2 ^ 32
IsInRange (ByteTo m b) = m.disp < 2 ^ 32
IsInRange (ByteFrom b m) = m.disp < 2 ^ 32
IsInRange (Widen r m) = m.disp < 2 ^ 32
IsInRange (Lea r m) = m.disp < 2 ^ 32
IsInRange (Alu op rm r) = IsRmInRange rm
IsInRange (AluFrom op r m) = m.disp < 2 ^ 32
IsInRange (AluImm op rm n) = IsRmInRange rm × (n < 2 ^ 32)
IsInRange (Test rm r) = IsRmInRange rm
IsInRange (PushImm n) = n < 2 ^ 32
IsInRange (Shift op rm count) = IsRmInRange rm × (count < 256)
IsInRange (Imul r rm) = IsRmInRange rm
IsInRange (Unary op rm) = IsRmInRange rm
IsInRange (Jmp rel) = rel < 2 ^ 32
IsInRange (Jcc c rel) = rel < 2 ^ 32
IsInRange (Call rel) = rel < 2 ^ 32
IsInRange (Gate n) = n < 256
IsInRange other = Unit {0}

-- Every instruction has a spelling: the chosen one, of at most 11 bytes.
abbrev pub ChosenSpells : Type 0
ChosenSpells = (ins : Ins) → IsInRange ins → Spells ins (chosen ins) × (length (chosen ins) ≤ 11)

-- Where the chosen spelling stands, the instruction begins there, whatever follows.
abbrev pub RoundTrip : Type 0
RoundTrip = (ins : Ins) (rest : List ℕ) → IsInRange ins
    → Begins ins (length (chosen ins)) (chosen ins ++ rest)
