-- The names of registers and statements, each once, and the words that are names of labels.
use Rattle.std.specs.Prelude.{ℕ, ◌&&◌, nat_le, not, Bool, List, [], ◌∷◌, length, slice_index, codes, find, Option, Some, None, if◌then◌else◌}
use Rattle.std.specs.List.{list_all}
use Rattle.std.specs.Char.{is_ascii_digit}
use Rattle.std.specs.Str.{bytes_eq}
use Rattle.i386_profile.specs.declared.operands.Reg.{Reg}
use Rattle.i386_profile.specs.declared.operands.Reg.TheVariants.{Eax, Ecx, Edx, Ebx, Esp, Ebp, Esi, Edi}
use Rattle.i386_profile.specs.declared.operands.ByteReg.{ByteReg}
use Rattle.i386_profile.specs.declared.operands.ByteReg.TheVariants.{Al, Cl, Dl, Bl}
use Rattle.i386_profile.specs.declared.ins.AluOp.TheVariants.{Add, Or, And, Sub, Xor, Cmp}
use Rattle.i386_profile.specs.declared.ins.ShiftOp.TheVariants.{Shl, Shr, Sar}
use Rattle.i386_profile.specs.declared.ins.UnaryOp.TheVariants.{Not, Neg, Mul, Div}
use Rattle.i386_profile.specs.declared.ins.Cond.TheVariants.{O, No, B, Ae, E, Ne, Be, A, S, Ns, L, Ge, Le, G}
use Rattle.pal_asm.specs.declared.names.Branch.TheVariants.{Jmp, Jcc, Call}
use Rattle.pal_asm.specs.declared.name.TheConstants.{LONGEST_NAME}
use Rattle.pal_asm.specs.declared.names.Mnemonic.{Mnemonic}
use Rattle.pal_asm.specs.declared.names.Mnemonic.TheVariants.{Mov, Movzx, Lea, Alu, Test, Inc, Dec, Push, Pop, Shift, Imul, Unary, Branch, Ret, Int, Nop, Byte, Long, Zero}
use Rattle.pal_asm.specs.Tokens.{is_name_byte}

-- a general register's name
abbrev pub register_name : Reg → List ℕ
register_name Eax = codes "eax"
register_name Ecx = codes "ecx"
register_name Edx = codes "edx"
register_name Ebx = codes "ebx"
register_name Esp = codes "esp"
register_name Ebp = codes "ebp"
register_name Esi = codes "esi"
register_name Edi = codes "edi"

-- a byte register's name
abbrev pub byte_register_name : ByteReg → List ℕ
byte_register_name Al = codes "al"
byte_register_name Cl = codes "cl"
byte_register_name Dl = codes "dl"
byte_register_name Bl = codes "bl"

-- the word that begins a statement
abbrev pub mnemonic_name : Mnemonic → List ℕ
mnemonic_name Mov = codes "mov"
mnemonic_name Movzx = codes "movzx"
mnemonic_name Lea = codes "lea"
mnemonic_name (Alu Add) = codes "add"
mnemonic_name (Alu Or) = codes "or"
mnemonic_name (Alu And) = codes "and"
mnemonic_name (Alu Sub) = codes "sub"
mnemonic_name (Alu Xor) = codes "xor"
mnemonic_name (Alu Cmp) = codes "cmp"
mnemonic_name Test = codes "test"
mnemonic_name Inc = codes "inc"
mnemonic_name Dec = codes "dec"
mnemonic_name Push = codes "push"
mnemonic_name Pop = codes "pop"
mnemonic_name (Shift Shl) = codes "shl"
mnemonic_name (Shift Shr) = codes "shr"
mnemonic_name (Shift Sar) = codes "sar"
mnemonic_name Imul = codes "imul"
mnemonic_name (Unary Not) = codes "not"
mnemonic_name (Unary Neg) = codes "neg"
mnemonic_name (Unary Mul) = codes "mul"
mnemonic_name (Unary Div) = codes "div"
mnemonic_name (Branch Jmp) = codes "jmp"
mnemonic_name (Branch (Jcc O)) = codes "jo"
mnemonic_name (Branch (Jcc No)) = codes "jno"
mnemonic_name (Branch (Jcc B)) = codes "jb"
mnemonic_name (Branch (Jcc Ae)) = codes "jae"
mnemonic_name (Branch (Jcc E)) = codes "je"
mnemonic_name (Branch (Jcc Ne)) = codes "jne"
mnemonic_name (Branch (Jcc Be)) = codes "jbe"
mnemonic_name (Branch (Jcc A)) = codes "ja"
mnemonic_name (Branch (Jcc S)) = codes "js"
mnemonic_name (Branch (Jcc Ns)) = codes "jns"
mnemonic_name (Branch (Jcc L)) = codes "jl"
mnemonic_name (Branch (Jcc Ge)) = codes "jge"
mnemonic_name (Branch (Jcc Le)) = codes "jle"
mnemonic_name (Branch (Jcc G)) = codes "jg"
mnemonic_name (Branch Call) = codes "call"
mnemonic_name Ret = codes "ret"
mnemonic_name Int = codes "int"
mnemonic_name Nop = codes "nop"
mnemonic_name Byte = codes ".byte"
mnemonic_name Long = codes ".long"
mnemonic_name Zero = codes ".zero"

-- all of each kind
abbrev pub registers : List Reg
registers = Eax ∷ Ecx ∷ Edx ∷ Ebx ∷ Esp ∷ Ebp ∷ Esi ∷ Edi ∷ []

abbrev pub byte_registers : List ByteReg
byte_registers = Al ∷ Cl ∷ Dl ∷ Bl ∷ []

abbrev pub mnemonics : List Mnemonic
mnemonics =
    Mov ∷ Movzx ∷ Lea
    ∷ Alu Add ∷ Alu Or ∷ Alu And ∷ Alu Sub ∷ Alu Xor ∷ Alu Cmp ∷ Test ∷ Inc ∷ Dec ∷ Push ∷ Pop
    ∷ Shift Shl ∷ Shift Shr ∷ Shift Sar ∷ Imul ∷ Unary Not ∷ Unary Neg ∷ Unary Mul ∷ Unary Div
    ∷ Branch Jmp ∷ Branch (Jcc O) ∷ Branch (Jcc No) ∷ Branch (Jcc B) ∷ Branch (Jcc Ae)
    ∷ Branch (Jcc E) ∷ Branch (Jcc Ne) ∷ Branch (Jcc Be) ∷ Branch (Jcc A) ∷ Branch (Jcc S)
    ∷ Branch (Jcc Ns) ∷ Branch (Jcc L) ∷ Branch (Jcc Ge)
    ∷ Branch (Jcc Le) ∷ Branch (Jcc G) ∷ Branch Call ∷ Ret ∷ Int ∷ Nop ∷ Byte ∷ Long ∷ Zero ∷ []

-- the register that a word names
abbrev pub register_of : List ℕ → Option Reg
register_of word = find (λ r. bytes_eq (register_name r) word) registers

abbrev pub byte_register_of : List ℕ → Option ByteReg
byte_register_of word = find (λ r. bytes_eq (byte_register_name r) word) byte_registers

-- a second name of four jumps: zero is equal, and carry is below
abbrev pub other_name : List ℕ → Option Mnemonic
other_name word =
    if bytes_eq word (codes "jz") then Some (Branch (Jcc E))
    else if bytes_eq word (codes "jnz") then Some (Branch (Jcc Ne))
    else if bytes_eq word (codes "jc") then Some (Branch (Jcc B))
    else if bytes_eq word (codes "jnc") then Some (Branch (Jcc Ae))
    else None

-- the first of two that is there
abbrev pub or_else : {A : Type 0} → Option A → Option A → Option A
or_else (Some a) other = Some a
or_else None other = other

-- the statement whose own name the word is
abbrev pub own_name : List ℕ → Option Mnemonic
own_name word = find (λ m. bytes_eq (mnemonic_name m) word) mnemonics

-- the statement that a word begins
abbrev pub mnemonic_of : List ℕ → Option Mnemonic
mnemonic_of word = or_else (own_name word) (other_name word)

-- a label's name: 1 to 32 letters, digits or `_`, the first no digit
abbrev pub is_name_length : ℕ → Bool
is_name_length n = nat_le 1 n && nat_le n LONGEST_NAME

abbrev pub is_name : List ℕ → Bool
is_name word =
    is_name_length (length word) && list_all is_name_byte word
    && not (is_ascii_digit (slice_index word 0))

-- the name that a word is
abbrev pub name_of : List ℕ → Option (List ℕ)
name_of word = if is_name word then Some word else None
