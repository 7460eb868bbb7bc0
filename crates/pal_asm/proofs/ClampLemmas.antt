-- Operands as the code reads them are in range where the operands are, and then they are the same.
use Rattle.std.proofs.Common.{◌≡◌, ◌-◌, ◌^◌, ◌<◌, Bool, true, false, List, [], ◌∷◌, map, refl, ap, ◌∙◌, arith, ℤ, pos, negsuc}
use Rattle.std.specs.Prelude.{◌&&◌, Option, Some, None, int_le}
use Rattle.std.specs.List.{list_all}
use Rattle.std.proofs.lemmas.Bool.Decides.{nat_tests}
use Rattle.i386_profile.specs.declared.operands.Reg.{Reg}
use Rattle.pal_asm.specs.declared.names.Mnemonic.{Mnemonic}
use Rattle.pal_asm.specs.declared.names.Mnemonic.TheVariants as m
use Rattle.pal_asm.specs.declared.operand.Place.{Place}
use Rattle.pal_asm.specs.declared.operand.Operand.{Operand}
use Rattle.pal_asm.specs.declared.operand.Operand.TheVariants.{Register, ByteRegister, Number, Label, Memory, Dword, Byte}
use Rattle.pal_asm.specs.Seen.{signed_as, place_as, operand_as}
use Rattle.pal_asm.specs.Operands.{is_within, is_displacement, is_place_in_range, is_in_range}
use Rattle.pal_asm.specs.Statements.{least_number, most_number}

-- a bound below 2 ^ 33 either way
abbrev pub IsBound : ℤ → Type 0
IsBound (pos n) = n < 2 ^ 33
IsBound (negsuc n) = n < 2 ^ 33 - 1

above : (least z : ℤ) → IsBound least → int_le least (signed_as z) ≡ int_le least z
above (pos a) (pos n) h = grind (arith, nat_tests)
above (pos a) (negsuc n) h = refl
above (negsuc a) (pos n) h = refl
above (negsuc a) (negsuc n) h = grind (arith, nat_tests)

below : (most z : ℤ) → IsBound most → int_le (signed_as z) most ≡ int_le z most
below (pos a) (pos n) h = grind (arith, nat_tests)
below (pos a) (negsuc n) h = refl
below (negsuc a) (pos n) h = refl
below (negsuc a) (negsuc n) h = grind (arith, nat_tests)

same_within : (least most z : ℤ) → IsBound least → IsBound most
    → is_within least most (signed_as z) ≡ is_within least most z
same_within least most z hl hm =
    ap (λ b. b && int_le (signed_as z) most) (above least z hl)
    ∙ ap (λ b. int_le least z && b) (below most z hm)

left : (a b : Bool) → (a && b) ≡ true → a ≡ true
left true b h = refl
left false b h = cc

right : (a b : Bool) → (a && b) ≡ true → b ≡ true
right true b h = h
right false b h = cc

exact_by : (least most z : ℤ) → IsBound least → IsBound most → int_le least z ≡ true
    → int_le z most ≡ true → signed_as z ≡ z
exact_by (pos a) (pos b) (pos n) hl hm l r = ap pos (grind (arith, nat_tests))
exact_by (pos a) (negsuc b) (pos n) hl hm l r = cc
exact_by (negsuc a) (pos b) (pos n) hl hm l r = ap pos (grind (arith, nat_tests))
exact_by (negsuc a) (negsuc b) (pos n) hl hm l r = cc
exact_by (pos a) most (negsuc n) hl hm l r = cc
exact_by (negsuc a) most (negsuc n) hl hm l r = ap negsuc (grind (arith, nat_tests))

-- a number within bounds is read as it is
exact : (least most z : ℤ) → IsBound least → IsBound most → is_within least most z ≡ true
    → signed_as z ≡ z
exact least most z hl hm h =
    exact_by least most z hl hm (left (int_le least z) _ h) (right (int_le least z) _ h)

-- ---- operands

same_displacement : (base : Option Reg) (z : ℤ)
    → is_displacement base (signed_as z) ≡ is_displacement base z
same_displacement None z = same_within (pos 0) (pos (2 ^ 32 - 1)) z (omega arith) (omega arith)
same_displacement (Some r) z =
    same_within (negsuc (2 ^ 31 - 1)) (pos (2 ^ 31 - 1)) z (omega arith) (omega arith)

exact_displacement : (base : Option Reg) (z : ℤ) → is_displacement base z ≡ true → signed_as z ≡ z
exact_displacement None z h = exact (pos 0) (pos (2 ^ 32 - 1)) z (omega arith) (omega arith) h
exact_displacement (Some r) z h =
    exact (negsuc (2 ^ 31 - 1)) (pos (2 ^ 31 - 1)) z (omega arith) (omega arith) h

same_place : (p : Place) → is_place_in_range (place_as p) ≡ is_place_in_range p
same_place p = same_displacement p.base p.displacement

exact_place : (p : Place) → is_place_in_range p ≡ true → place_as p ≡ p
exact_place p h =
    ap (λ z. record {
      base = p.base;
      displacement =
          z;
    }) (exact_displacement p.base p.displacement h)

same_range : (least most : ℤ) (o : Operand) → IsBound least → IsBound most
    → is_in_range least most (operand_as o) ≡ is_in_range least most o
same_range least most (Number z) hl hm = same_within least most z hl hm
same_range least most (Memory p) hl hm = same_place p
same_range least most (Dword p) hl hm = same_place p
same_range least most (Byte p) hl hm = same_place p
same_range least most (Register r) hl hm = refl
same_range least most (ByteRegister b) hl hm = refl
same_range least most (Label n) hl hm = refl

exact_operand : (least most : ℤ) (o : Operand) → IsBound least → IsBound most
    → is_in_range least most o ≡ true → operand_as o ≡ o
exact_operand least most (Number z) hl hm h = ap Number (exact least most z hl hm h)
exact_operand least most (Memory p) hl hm h = ap Memory (exact_place p h)
exact_operand least most (Dword p) hl hm h = ap Dword (exact_place p h)
exact_operand least most (Byte p) hl hm h = ap Byte (exact_place p h)
exact_operand least most (Register r) hl hm h = refl
exact_operand least most (ByteRegister b) hl hm h = refl
exact_operand least most (Label n) hl hm h = refl

ranges_by : (least most : ℤ) (os : List Operand) → IsBound least → IsBound most
    → list_all (is_in_range least most) (map operand_as os) ≡ list_all (is_in_range least most) os
ranges_by least most [] hl hm = refl
ranges_by least most (o ∷ os) hl hm =
    rw (same_range least most o hl hm, ranges_by least most os hl hm) refl

operands_by : (least most : ℤ) (os : List Operand) → IsBound least → IsBound most
    → list_all (is_in_range least most) os ≡ true → map operand_as os ≡ os
operands_by least most [] hl hm h = refl
operands_by least most (o ∷ os) hl hm h =
    rw (
      exact_operand least most o hl hm (left (is_in_range least most o) _ h),
      operands_by least most os hl hm (right (is_in_range least most o) _ h),
    ) refl

least_is_bound : (mnemonic : Mnemonic) → IsBound (least_number mnemonic)
least_is_bound (m.Shift op) = omega arith
least_is_bound (m.Branch b) = omega arith
least_is_bound m.Int = omega arith
least_is_bound m.Byte = omega arith
least_is_bound m.Zero = omega arith
least_is_bound _ = omega arith

most_is_bound : (mnemonic : Mnemonic) → IsBound (most_number mnemonic)
most_is_bound (m.Shift op) = omega arith
most_is_bound m.Int = omega arith
most_is_bound m.Byte = omega arith
most_is_bound m.Zero = omega arith
most_is_bound _ = omega arith

-- in range as they are read, where they are in range
pub same_ranges : (mnemonic : Mnemonic) (os : List Operand)
    → list_all (is_in_range (least_number mnemonic) (most_number mnemonic)) (map operand_as os)
    ≡ list_all (is_in_range (least_number mnemonic) (most_number mnemonic)) os
same_ranges mnemonic os =
    ranges_by (least_number mnemonic) (most_number mnemonic) os (least_is_bound mnemonic)
    (most_is_bound mnemonic)

-- and then read as they are
pub same_operands : (mnemonic : Mnemonic) (os : List Operand)
    → list_all (is_in_range (least_number mnemonic) (most_number mnemonic)) os ≡ true
    → map operand_as os ≡ os
same_operands mnemonic os h =
    operands_by (least_number mnemonic) (most_number mnemonic) os (least_is_bound mnemonic)
    (most_is_bound mnemonic) h

-- a byte, in range as it is read where it is
pub same_byte : (z : ℤ) → is_within (negsuc 127) (pos 255) (signed_as z)
    ≡ is_within (negsuc 127) (pos 255) z
same_byte z = same_within (negsuc 127) (pos 255) z (omega arith) (omega arith)

pub exact_byte : (z : ℤ) → is_within (negsuc 127) (pos 255) z ≡ true → signed_as z ≡ z
exact_byte z h = exact (negsuc 127) (pos 255) z (omega arith) (omega arith) h
