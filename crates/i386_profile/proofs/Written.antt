-- What is written is spelled.
use Rattle.std.proofs.Common.{◌≡◌, ◌≢◌, ℕ, ◌%◌, ◌^◌, ◌<◌, ◌≤◌, Bool, true, false, cond, eqb, [], ◌++◌, length, Option, Some, None, refl, sym, subst, arith, inl, inr}
use Rattle.std.specs.Prelude.{◌&&◌, not}
use Rattle.std.proofs.lemmas.List.{length-append, take_at, append-nil}
use Rattle.i386_profile.specs.declared.operands.Reg.{Reg}
use Rattle.i386_profile.specs.declared.operands.Reg.TheVariants.{Ebp}
use Rattle.i386_profile.specs.declared.operands.Rm.{Rm}
use Rattle.i386_profile.specs.declared.operands.Rm.TheVariants as rms
use Rattle.i386_profile.specs.declared.ins.Ins.{Ins}
use Rattle.i386_profile.specs.declared.ins.Ins.TheVariants.{Load, Put, MovTo, MovFrom, ByteTo, ByteFrom, Widen, WidenReg, Lea, Alu, AluFrom, AluImm, Test, Inc, Dec, Push, Pop, PushImm, Shift, Imul, Unary, Jmp, Jcc, Call, Ret, Gate, Nop}
use Rattle.i386_profile.specs.Codes.{whole_of, reg_code, alu_code, shift_code, unary_code}
use Rattle.i386_profile.specs.Spelling.{IsSignedByte, modrm_base, SpellsMemory, SpellsRm, Spells}
use Rattle.i386_profile.specs.Chosen.{doubleword, low_byte, is_signed_byte, chosen_memory, chosen_rm, chosen}
use Rattle.i386_profile.specs.Laws.{IsRmInRange, IsInRange, ChosenSpells, RoundTrip}
use Rattle.i386_profile.proofs.Lengths.{bounded}

split : {A : Type 0} (P : A → Type 0) (b : Bool) (x y : A) → (b ≡ true → P x) → (b ≡ false → P y)
    → P (cond b x y)
split P true x y f g = f refl
split P false x y f g = g refl

low_byte_is : (n : ℕ) → n < 2 ^ 32 → is_signed_byte n ≡ true → IsSignedByte n (low_byte n)
low_byte_is n lt e = (n % 256, omega arith, grind arith, refl)

not_ebp : (disp : ℕ) (base : Reg) → (eqb disp 0 && not (eqb (reg_code base) 5)) ≡ true
    → (base ≢ Ebp) × (disp ≡ 0)
not_ebp disp base e = (λ same. grind arith, grind arith)

memory_is : (reg : ℕ) (base : Option Reg) (disp : ℕ) → disp < 2 ^ 32
    → SpellsMemory reg base disp (chosen_memory reg base disp)
memory_is reg None disp lt = (doubleword disp, (lt, refl), refl)
memory_is reg (Some base) disp lt =
    split (SpellsMemory reg (Some base) disp) (eqb disp 0 && not (eqb (reg_code base) 5)) _ _
    (λ e. let h = not_ebp disp base e in
    (0, [], inl (refl, h.0, h.1, refl), sym (append-nil (modrm_base 0 reg base))))
    (λ _. split (SpellsMemory reg (Some base) disp) (is_signed_byte disp) _ _
    (λ e. (1, low_byte disp, inr (inl (refl, low_byte_is disp lt e)), refl))
    (λ _. (2, doubleword disp, inr (inr (refl, (lt, refl))), refl)))

rm_is : (reg : ℕ) (rm : Rm) → IsRmInRange rm → SpellsRm reg rm (chosen_rm reg rm)
rm_is reg (rms.Reg r) h = refl
rm_is reg (rms.Mem m) h = memory_is reg m.base m.disp h

spelled : (ins : Ins) → IsInRange ins → Spells ins (chosen ins)
spelled (Load r n) h = inl (doubleword n, (h, refl), refl)
spelled (Put m n) h = (_, _, rm_is 0 (rms.Mem m) h.0, (h.1, refl), refl)
spelled (MovTo rm r) h = inl (_, rm_is (reg_code r) rm h, refl)
spelled (MovFrom r m) h = (_, rm_is (reg_code r) (rms.Mem m) h, refl)
spelled (ByteTo m b) h = (_, rm_is (reg_code (whole_of b)) (rms.Mem m) h, refl)
spelled (ByteFrom b m) h = (_, rm_is (reg_code (whole_of b)) (rms.Mem m) h, refl)
spelled (Widen r m) h = (_, rm_is (reg_code r) (rms.Mem m) h, refl)
spelled (WidenReg r b) h = (_, rm_is (reg_code r) (rms.Reg (whole_of b)) tt, refl)
spelled (Lea r m) h = (_, rm_is (reg_code r) (rms.Mem m) h, refl)
spelled (Alu op rm r) h = inl (_, rm_is (reg_code r) rm h, refl)
spelled (AluFrom op r m) h = (_, rm_is (reg_code r) (rms.Mem m) h, refl)
spelled (AluImm op rm n) h =
    split (Spells (AluImm op rm n)) (is_signed_byte n) _ _
    (λ e. inl (_, _, rm_is (alu_code op) rm h.0, low_byte_is n h.1 e, refl))
    (λ _. inr (_, _, rm_is (alu_code op) rm h.0, (h.1, refl), refl))
spelled (Test rm r) h = (_, rm_is (reg_code r) rm h, refl)
spelled (Inc r) h = refl
spelled (Dec r) h = refl
spelled (Push r) h = refl
spelled (Pop r) h = refl
spelled (PushImm n) h = (_, (h, refl), refl)
spelled (Shift op rm count) h = (_, _, rm_is (shift_code op) rm h.0, (h.1, refl), refl)
spelled (Imul r rm) h = (_, rm_is (reg_code r) rm h, refl)
spelled (Unary op rm) h = (_, rm_is (unary_code op) rm h, refl)
spelled (Jmp rel) h = inl (_, (h, refl), refl)
spelled (Jcc c rel) h = inl (_, (h, refl), refl)
spelled (Call rel) h = (_, (h, refl), refl)
spelled Ret h = refl
spelled (Gate n) h = (_, (h, refl), refl)
spelled Nop h = refl

pub chosen_is_spelling : ChosenSpells
chosen_is_spelling ins h = let s = spelled ins h in (s, (bounded ins (chosen ins) s).1)

pub comes_back : RoundTrip
comes_back ins rest h =
    let within : length (chosen ins) ≤ length (chosen ins ++ rest) =
    omega (arith, length-append (chosen ins) rest) in (
      within,
      subst (Spells ins) (sym (take_at (chosen ins) rest (length (chosen ins)) refl))
          (spelled ins h),
    )
