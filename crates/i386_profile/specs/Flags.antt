-- Registers, results and flags, over whole numbers: an operand of 32 bits is a number below 2^32
-- (i386 manuals, "Flags Register" and "Status Flags Summary").
use Rattle.std.specs.Prelude.{ℕ, ◌+◌, ◌-◌, ◌*◌, ◌/◌, ◌%◌, ◌^◌, ◌&&◌, ◌||◌, not, Bool, false, if◌then◌else◌, nat_lt, nat_le, ◌==◌, slice_index, slice_set, bit_and, bit_or, bit_xor, ℤ, pos, negsuc, ◌+ℤ◌, ◌-ℤ◌, ◌*ℤ◌}
use Rattle.std.specs.Int.{w32, cast_signed, cast_unsigned, int_shr, bit_at}
use Rattle.i386_profile.specs.declared.operands.Reg.{Reg}
use Rattle.i386_profile.specs.declared.operands.Reg.TheVariants.{Eax, Edx, Esp}
use Rattle.i386_profile.specs.declared.ins.AluOp.{AluOp}
use Rattle.i386_profile.specs.declared.ins.AluOp.TheVariants.{Add, Or, And, Sub, Xor, Cmp}
use Rattle.i386_profile.specs.declared.ins.ShiftOp.{ShiftOp}
use Rattle.i386_profile.specs.declared.ins.ShiftOp.TheVariants.{Shl, Shr, Sar}
use Rattle.i386_profile.specs.declared.ins.Cond.{Cond}
use Rattle.i386_profile.specs.declared.ins.Cond.TheVariants.{O, No, B, Ae, E, Ne, Be, A, S, Ns, L, Ge, Le, G}
use Rattle.i386_profile.specs.declared.cpu.Cpu.{Cpu}
use Rattle.i386_profile.specs.Codes.{reg_code}

-- a register's value
abbrev pub get : Cpu → Reg → ℕ
get c r = slice_index c.regs (reg_code r)

-- the registers with a new value in one
abbrev pub set : Cpu → Reg → ℕ → Cpu
set c r value = record c { regs = slice_set c.regs (reg_code r) value }

-- the registers with esp above the doubleword on the stack's top
abbrev pub pop_state : Cpu → Cpu
pop_state c = set c Esp ((get c Esp + 4) % 2 ^ 32)

-- eip at a distance from where it is
abbrev pub jump_state : Cpu → ℕ → Cpu
jump_state c rel = record c { eip = (c.eip + rel) % 2 ^ 32 }

-- ---- signed numbers

-- the signed number of 32 bits, in two's complement
abbrev pub signed_value : ℕ → ℤ
signed_value n = cast_signed w32 n

-- -2^31 to 2^31 - 1
abbrev pub fits_signed : ℤ → Bool
fits_signed (pos n) = nat_lt n (2 ^ 31)
fits_signed (negsuc n) = nat_lt n (2 ^ 31)

-- the top bit
abbrev pub is_negative : ℕ → Bool
is_negative n = nat_le (2 ^ 31) n

-- exclusive or
abbrev pub differ : Bool → Bool → Bool
differ a b = (a && not b) || (not a && b)

-- ---- sums, differences, products

-- modulo 2^32
abbrev pub sum_of : ℕ → ℕ → ℕ
sum_of a b = (a + b) % 2 ^ 32

-- the unsigned sum passes 32 bits
abbrev pub sum_carries : ℕ → ℕ → Bool
sum_carries a b = nat_le (2 ^ 32) (a + b)

-- the signed sum does not fit
abbrev pub sum_overflows : ℕ → ℕ → Bool
sum_overflows a b = not (fits_signed (signed_value a +ℤ signed_value b))

-- modulo 2^32
abbrev pub difference_of : ℕ → ℕ → ℕ
difference_of a b = (a + 2 ^ 32 - b) % 2 ^ 32

-- the unsigned difference is below 0
abbrev pub difference_borrows : ℕ → ℕ → Bool
difference_borrows a b = nat_lt a b

-- the signed difference does not fit
abbrev pub difference_overflows : ℕ → ℕ → Bool
difference_overflows a b = not (fits_signed (signed_value a -ℤ signed_value b))

-- the low 32 bits, which are those of the signed product too
abbrev pub product_of : ℕ → ℕ → ℕ
product_of a b = (a * b) % 2 ^ 32

-- the unsigned product passes 32 bits
abbrev pub product_carries : ℕ → ℕ → Bool
product_carries a b = nat_le (2 ^ 32) (a * b)

-- the signed product does not fit
abbrev pub product_overflows : ℕ → ℕ → Bool
product_overflows a b = not (fits_signed (signed_value a *ℤ signed_value b))

-- ---- flags

-- all four flags: zero and sign go by the value
abbrev pub with_flags : Cpu → Bool → Bool → ℕ → Cpu
with_flags c carry overflow value =
    record c { cf = carry; zf = value == 0; sf = is_negative value; of = overflow }

-- carry and overflow alone
abbrev pub with_carry_overflow : Cpu → Bool → Bool → Cpu
with_carry_overflow c carry overflow = record c { cf = carry; of = overflow }

-- a condition, by the flags
abbrev pub holds : Cond → Cpu → Bool
holds O c = c.of
holds No c = not c.of
holds B c = c.cf
holds Ae c = not c.cf
holds E c = c.zf
holds Ne c = not c.zf
holds Be c = c.cf || c.zf
holds A c = not (c.cf || c.zf)
holds S c = c.sf
holds Ns c = not c.sf
holds L c = differ c.sf c.of
holds Ge c = not (differ c.sf c.of)
holds Le c = c.zf || differ c.sf c.of
holds G c = not (c.zf || differ c.sf c.of)

-- ---- operations of two operands

-- the result; cmp subtracts
abbrev pub alu_value : AluOp → ℕ → ℕ → ℕ
alu_value Add a b = sum_of a b
alu_value Or a b = bit_or a b
alu_value And a b = bit_and a b
alu_value Sub a b = difference_of a b
alu_value Xor a b = bit_xor a b
alu_value Cmp a b = difference_of a b

-- add and sub set all four flags by their arithmetic; or, and, xor clear carry and overflow
abbrev pub alu_flags : AluOp → Cpu → ℕ → ℕ → Cpu
alu_flags Add c a b = with_flags c (sum_carries a b) (sum_overflows a b) (sum_of a b)
alu_flags Or c a b = with_flags c false false (bit_or a b)
alu_flags And c a b = with_flags c false false (bit_and a b)
alu_flags Sub c a b =
    with_flags c (difference_borrows a b) (difference_overflows a b) (difference_of a b)
alu_flags Xor c a b = with_flags c false false (bit_xor a b)
alu_flags Cmp c a b =
    with_flags c (difference_borrows a b) (difference_overflows a b) (difference_of a b)

-- ---- operations of one operand

-- one is added, and the carry kept
abbrev pub inc : Cpu → Reg → Cpu
inc c r = let a = get c r in set (with_flags c c.cf (sum_overflows a 1) (sum_of a 1)) r (sum_of a 1)

-- the same downward
abbrev pub dec : Cpu → Reg → Cpu
dec c r = let a = get c r in
    set (with_flags c c.cf (difference_overflows a 1) (difference_of a 1)) r (difference_of a 1)

-- each bit is turned
abbrev pub not_value : ℕ → ℕ
not_value a = 2 ^ 32 - 1 - a

-- neg subtracts its operand from 0
abbrev pub neg_value : ℕ → ℕ
neg_value a = difference_of 0 a

-- the carry is clear exactly for 0
abbrev pub neg_flags : Cpu → ℕ → Cpu
neg_flags c a = with_flags c (not (a == 0)) (difference_overflows 0 a) (neg_value a)

-- edx:eax is eax times the operand; zero and sign are kept
abbrev pub mul : Cpu → ℕ → Cpu
mul c b =
    let product = get c Eax * b in
    let carry = product_carries (get c Eax) b in
    with_carry_overflow (set (set c Eax (product % 2 ^ 32)) Edx (product / 2 ^ 32)) carry carry

-- ---- shifts by a count below 32

-- sar divides the signed number and rounds down
abbrev pub shift_value : ShiftOp → ℕ → ℕ → ℕ
shift_value Shl a count = (a * 2 ^ count) % 2 ^ 32
shift_value Shr a count = a / 2 ^ count
shift_value Sar a count = cast_unsigned w32 (int_shr (signed_value a) count)

-- the last bit shifted out
abbrev pub shift_carry : ShiftOp → ℕ → ℕ → Bool
shift_carry Shl a count = bit_at a (32 - count) == 1
shift_carry Shr a count = bit_at a (count - 1) == 1
shift_carry Sar a count = bit_at a (count - 1) == 1

-- the overflow of a shift by 1
abbrev pub shift_overflow : ShiftOp → ℕ → Bool
shift_overflow Shl a = differ (is_negative (shift_value Shl a 1)) (shift_carry Shl a 1)
shift_overflow Shr a = is_negative a
shift_overflow Sar a = false

-- a count of 0 keeps all flags, a count above 1 keeps the overflow
abbrev pub shift_flags : ShiftOp → Cpu → ℕ → ℕ → Cpu
shift_flags op c a count =
    if count == 0 then c
    else with_flags c (shift_carry op a count) (if count == 1 then shift_overflow op a else c.of)
    (shift_value op a count)
