-- What is read is spelled, by groups of opcodes.
use Rattle.std.proofs.Common.{
  ◌≡◌,
  ℕ,
  ◌+◌,
  ◌/◌,
  ◌%◌,
  ◌<◌,
  ◌≤◌,
  true,
  eqb,
  ltb,
  List,
  [],
  ◌∷◌,
  ◌++◌,
  Option,
  Some,
  None,
  refl,
  sym,
  ap,
  subst,
  ◌∙◌,
  append_assoc,
  arith,
  inl,
  inr,
}
use Rattle.std.proofs.lemmas.Bool.{ltb-false, ltb-true, eqb-true}
use Rattle.i386_profile.specs.declared.operands.Reg.{Reg}
use Rattle.i386_profile.specs.declared.operands.ByteReg.{ByteReg}
use Rattle.i386_profile.specs.declared.operands.Rm.{Rm}
use Rattle.i386_profile.specs.declared.operands.Rm.TheVariants as rms
use Rattle.i386_profile.specs.declared.ins.AluOp.{AluOp}
use Rattle.i386_profile.specs.declared.ins.AluOp.TheVariants.{Add}
use Rattle.i386_profile.specs.declared.ins.ShiftOp.{ShiftOp}
use Rattle.i386_profile.specs.declared.ins.UnaryOp.{UnaryOp}
use Rattle.i386_profile.specs.declared.ins.Cond.{Cond}
use Rattle.i386_profile.specs.declared.ins.Ins.{Ins}
use Rattle.i386_profile.specs.declared.ins.Ins.TheVariants.{Ret, Nop}
use Rattle.i386_profile.specs.Codes.{whole_of, reg_code, alu_code, alu_opcode, alu_from_opcode, shift_code, unary_code, cond_code}
use Rattle.i386_profile.specs.Spelling.{IsDoubleword, IsByte, IsSignedByte, SpellsRm, one_byte, two_byte, HasImmediate, HasOperand, HasOperandImmediate, Spells}
use Rattle.i386_profile.specs.Reading.{reg_of, byte_reg_of, alu_of, shift_of, unary_of, low_cond_of, high_cond_of, cond_of, byte_at, doubleword_at, signed_byte_at, Operands, operands_at, Read, mov_from, alu_from, lea, byte_to, byte_from, widen, put, alu_at, register_at, immediate_at, short_jcc_at, jcc_at, alu_imm_at, mov_ins, mov_at, shift_at, put_at, gate_at, short_jmp_at, unary_at, imul_at, widen_at, two_byte_at, low_at, middle_at, high_at, instruction_at}
use Rattle.i386_profile.proofs.Fields.{IsBytes, IsBytes-rest, bind_some, branch, some_is, Took, byte_takes, doubleword_takes, signed_takes, reg_takes, reg_again}
use Rattle.i386_profile.proofs.ModRm.{operands_takes}

-- an instruction was taken from the beginning
abbrev Ends : Ins → List ℕ → List ℕ → Type 0
Ends ins bytes rest = Took (Spells ins) bytes rest

abbrev pub some_read : Ins → List ℕ → Read
some_read ins rest = Some (ins, rest)

ends : (bytes : List ℕ) (made ins : Ins) (after rest : List ℕ)
    → some_read made after ≡ some_read ins rest → Ends made bytes after → Ends ins bytes rest
ends bytes made ins after rest e t =
    subst (λ (p : Ins × List ℕ). Ends p.0 bytes p.1) (some_is (made, after) (ins, rest) e) t

nothing : {G : Type 0} (ins : Ins) (rest : List ℕ) → ◌≡◌ {A = Read} None (some_read ins rest) → G
nothing ins rest e = absurd cc

no_ins : {G : Type 0} (ins : Ins) → ◌≡◌ {A = Option Ins} None (Some ins) → G
no_ins ins e = absurd cc

-- a text of one kind is a text of another
as_is : {S T : List ℕ → Type 0} (bytes rest : List ℕ) → ((t : List ℕ) → S t → T t)
    → Took S bytes rest → Took T bytes rest
as_is bytes rest f t = record {
  text = t.text;
  spelled = f t.text t.spelled;
  parts =
      t.parts;
  rest_fits = t.rest_fits;
}

-- ---- opcode, operands, number

slash : (b opcode reg : ℕ) (rm : Rm) (bytes rest : List ℕ) → b ≡ opcode
    → Took (SpellsRm reg rm) bytes rest
    → Took (HasOperand (one_byte opcode) reg rm) (b ∷ bytes) rest
slash b opcode reg rm bytes rest e t =
    record {
      text = b ∷ t.text;
      spelled = (t.text, t.spelled, ap (λ k. k ∷ t.text) e);
      parts =
          ap (λ (r : List ℕ). b ∷ r) t.parts;
      rest_fits = t.rest_fits;
    }

escaped_slash : (b opcode reg : ℕ) (rm : Rm) (bytes rest : List ℕ) → b ≡ opcode
    → Took (SpellsRm reg rm) bytes rest
    → Took (HasOperand (two_byte opcode) reg rm) (0x0F ∷ b ∷ bytes) rest
escaped_slash b opcode reg rm bytes rest e t =
    record {
      text = 0x0F ∷ b ∷ t.text;
      spelled =
          (t.text, t.spelled, ap (λ k. 0x0F ∷ k ∷ t.text) e);
      parts =
          ap (λ (r : List ℕ). 0x0F ∷ b ∷ r) t.parts;
      rest_fits = t.rest_fits;
    }

slash_immediate : (Is : ℕ → List ℕ
    → Type 0) (opcode reg : ℕ) (rm : Rm) (n : ℕ) (bytes mid rest : List ℕ)
    → Took (SpellsRm reg rm) bytes mid → Took (Is n) mid rest
    → Took (HasOperandImmediate Is (one_byte opcode) reg rm n) (opcode ∷ bytes) rest
slash_immediate Is opcode reg rm n bytes mid rest t i = record {
  text = opcode ∷ (t.text ++ i.text);
  spelled = (t.text, i.text, t.spelled, i.spelled, refl);
  parts = ap (λ (r : List ℕ). opcode ∷ r) (t.parts ∙ ap (λ (r : List ℕ). t.text ++ r) i.parts
      ∙ sym (append_assoc t.text i.text rest));
  rest_fits = i.rest_fits;
}

immediate : (Is : ℕ → List ℕ → Type 0) (b opcode n : ℕ) (bytes rest : List ℕ) → b ≡ opcode
    → Took (Is n) bytes rest → Took (HasImmediate Is (one_byte opcode) n) (b ∷ bytes) rest
immediate Is b opcode n bytes rest e i =
    record {
      text = b ∷ i.text;
      spelled = (i.text, i.spelled, ap (λ k. k ∷ i.text) e);
      parts =
          ap (λ (r : List ℕ). b ∷ r) i.parts;
      rest_fits = i.rest_fits;
    }

alone : (b opcode : ℕ) (bytes : List ℕ) (made ins : Ins) (rest : List ℕ) → IsBytes bytes
    → b ≡ opcode → some_read made bytes ≡ some_read ins rest
    → ((t : List ℕ) → t ≡ one_byte opcode → Spells made t) → Ends ins (b ∷ bytes) rest
alone b opcode bytes made ins rest fits is e f =
    ends _ made ins bytes rest e (record {
      text = b ∷ [];
      spelled =
          f (b ∷ []) (ap (λ k. k ∷ []) is);
      parts = refl;
      rest_fits = fits;
    })

-- the operands, with a register in reg
with_reg : (bytes : List ℕ) (o : Operands) (rest : List ℕ) → IsBytes bytes
    → operands_at bytes ≡ Some (o, rest) → Took (SpellsRm (reg_code (reg_of o.reg)) o.rm) bytes rest
with_reg bytes o rest fits e =
    let t = operands_takes bytes o rest fits e in
    subst (λ k. Took (SpellsRm k o.rm) bytes rest) (sym (reg_takes o.reg t.1)) t.0

-- the operands, with this number in reg
with_code : (bytes : List ℕ) (o : Operands) (rest : List ℕ) (code : ℕ) → IsBytes bytes
    → operands_at bytes ≡ Some (o, rest) → o.reg ≡ code → Took (SpellsRm code o.rm) bytes rest
with_code bytes o rest code fits e is =
    subst (λ k. Took (SpellsRm k o.rm) bytes rest) is (operands_takes bytes o rest fits e).0

-- ---- numbers of registers, operations and conditions

byte_found : (n : ℕ) (b : ByteReg) → byte_reg_of n ≡ Some b → n ≡ reg_code (whole_of b)
byte_found n b e = grind arith

alu_found : (n : ℕ) (op : AluOp) → alu_of n ≡ Some op → n ≡ alu_code op
alu_found n op e = grind arith

shift_found : (n : ℕ) (op : ShiftOp) → shift_of n ≡ Some op → n ≡ shift_code op
shift_found n op e = grind arith

unary_found : (n : ℕ) (op : UnaryOp) → unary_of n ≡ Some op → n ≡ unary_code op
unary_found n op e = grind arith

low_cond_found : (n : ℕ) (c : Cond) → low_cond_of n ≡ Some c → n ≡ cond_code c
low_cond_found n c e = grind arith

high_cond_found : (n : ℕ) (c : Cond) → high_cond_of n ≡ Some c → n ≡ cond_code c
high_cond_found n c e = grind arith

cond_found : (n : ℕ) (c : Cond) → cond_of n ≡ Some c → n ≡ cond_code c
cond_found n c e =
    elim (branch (ltb n 8) _ _ _ e) [
      | inl (_, h) ↦ low_cond_found n c h
      | inr (_, h) ↦
          high_cond_found n c h
    ]

alu_opcode_is : (b : ℕ) (op : AluOp) → b / 8 ≡ alu_code op → b % 8 ≡ 1 → b ≡ alu_opcode op
alu_opcode_is b Add e f = omega arith
alu_opcode_is b _ e f = omega arith

alu_from_opcode_is : (b : ℕ) (op : AluOp) → b / 8 ≡ alu_code op → b % 8 ≡ 3 → b ≡ alu_from_opcode op
alu_from_opcode_is b Add e f = omega arith
alu_from_opcode_is b _ e f = omega arith

code_is : (r s : Reg) → reg_code r ≡ reg_code s → r ≡ s
code_is r s e = sym (reg_again r) ∙ ap reg_of e ∙ reg_again s

-- ---- operands whose kind chooses the instruction

mov_from_ends : (r : Reg) (rm : Rm) (bytes rest : List ℕ)
    → Took (HasOperand (one_byte 0x8B) (reg_code r) rm) bytes rest → Ends (mov_from r rm) bytes rest
mov_from_ends r (rms.Reg s) bytes rest t = as_is bytes rest (λ _ h. inr h) t
mov_from_ends r (rms.Mem m) bytes rest t = t

alu_from_ends : (op : AluOp) (r : Reg) (rm : Rm) (bytes rest : List ℕ)
    → Took (HasOperand (one_byte (alu_from_opcode op)) (reg_code r) rm) bytes rest
    → Ends (alu_from op r rm) bytes rest
alu_from_ends op r (rms.Reg s) bytes rest t = as_is bytes rest (λ _ h. inr h) t
alu_from_ends op r (rms.Mem m) bytes rest t = t

lea_ends : (r : Reg) (rm : Rm) (ins : Ins) (bytes rest : List ℕ) → lea r rm ≡ Some ins
    → Took (HasOperand (one_byte 0x8D) (reg_code r) rm) bytes rest → Ends ins bytes rest
lea_ends r (rms.Reg s) ins bytes rest e t = no_ins ins e
lea_ends r (rms.Mem m) ins bytes rest e t = subst (λ (i : Ins). Ends i bytes rest) (some_is _ _ e) t

byte_to_ends : (reg : ℕ) (rm : Rm) (ins : Ins) (bytes rest : List ℕ) → byte_to reg rm ≡ Some ins
    → Took (HasOperand (one_byte 0x88) reg rm) bytes rest → Ends ins bytes rest
byte_to_ends reg (rms.Reg s) ins bytes rest e t = no_ins ins e
byte_to_ends reg (rms.Mem m) ins bytes rest e t =
    let b = bind_some (byte_reg_of reg) _ _ e in
    subst (λ (i : Ins). Ends i bytes rest) (some_is _ _ b.2)
    (subst (λ k. Took (HasOperand (one_byte 0x88) k (rms.Mem m)) bytes rest)
    (byte_found reg b.0 b.1) t)

byte_from_ends : (reg : ℕ) (rm : Rm) (ins : Ins) (bytes rest : List ℕ) → byte_from reg rm ≡ Some ins
    → Took (HasOperand (one_byte 0x8A) reg rm) bytes rest → Ends ins bytes rest
byte_from_ends reg (rms.Reg s) ins bytes rest e t = no_ins ins e
byte_from_ends reg (rms.Mem m) ins bytes rest e t =
    let b = bind_some (byte_reg_of reg) _ _ e in
    subst (λ (i : Ins). Ends i bytes rest) (some_is _ _ b.2)
    (subst (λ k. Took (HasOperand (one_byte 0x8A) k (rms.Mem m)) bytes rest)
    (byte_found reg b.0 b.1) t)

widen_ends : (r : Reg) (rm : Rm) (ins : Ins) (bytes rest : List ℕ) → widen r rm ≡ Some ins
    → Took (HasOperand (two_byte 0xB6) (reg_code r) rm) bytes rest → Ends ins bytes rest
widen_ends r (rms.Reg s) ins bytes rest e t =
    let b = bind_some (byte_reg_of (reg_code s)) _ _ e in
    let same = code_is s (whole_of b.0) (byte_found _ b.0 b.1) in
    subst (λ (i : Ins). Ends i bytes rest) (some_is _ _ b.2)
    (subst (λ (q : Reg). Took (HasOperand (two_byte 0xB6) (reg_code r) (rms.Reg q))
    bytes rest) same t)
widen_ends r (rms.Mem m) ins bytes rest e t =
    subst (λ (i : Ins). Ends i bytes rest) (some_is _ _ e) t

put_ends : (rm : Rm) (n : ℕ) (bytes rest : List ℕ)
    → Took (HasOperandImmediate IsDoubleword (one_byte 0xC7) 0 rm n) bytes rest
    → Ends (put rm n) bytes rest
put_ends (rms.Reg s) n bytes rest t = as_is bytes rest (λ _ h. inr h) t
put_ends (rms.Mem m) n bytes rest t = t

-- ---- the groups

alu_takes : (b : ℕ) (bytes : List ℕ) (ins : Ins) (rest : List ℕ) → IsBytes bytes
    → alu_at b bytes ≡ some_read ins rest → Ends ins (b ∷ bytes) rest
unfolding alu_at
alu_takes b bytes ins rest fits e =
    let p = bind_some (alu_of (b / 8)) _ _ e in
    let o = bind_some (operands_at bytes) _ _ p.2 in
    let t = with_reg bytes o.0.0 o.0.1 fits o.1 in
    let code = alu_found (b / 8) p.0 p.1 in
    elim (branch (eqb (b % 8) 1) _ _ _ o.2) [
      | inl (one, h) ↦
          ends _ _ ins _ rest h (as_is _ _ (λ _ s. inl s)
          (slash b (alu_opcode p.0) _ _ bytes o.0.1
          (alu_opcode_is b p.0 code (eqb-true _ _ one)) t))
      | inr (_, h) ↦ elim (branch (eqb (b % 8) 3) _ _ _ h) [
        | inl (three, k) ↦
            ends _ _ ins _ rest k (alu_from_ends p.0 (reg_of o.0.0.reg) o.0.0.rm _ _
            (slash b (alu_from_opcode p.0) _ _ bytes o.0.1
            (alu_from_opcode_is b p.0 code (eqb-true _ _ three)) t))
        | inr (_, k) ↦ nothing ins rest k
      ]
    ]

register_takes : (b : ℕ) (bytes : List ℕ) (ins : Ins) (rest : List ℕ) → IsBytes bytes
    → register_at b bytes ≡ some_read ins rest → Ends ins (b ∷ bytes) rest
unfolding register_at
register_takes b bytes ins rest fits e =
    let code : reg_code (reg_of (b % 8)) ≡ b % 8 = reg_takes (b % 8) (omega arith) in
    elim (branch (eqb (b / 8) 8) _ _ _ e) [
      | inl (row, h0) ↦ alone b (0x40 + reg_code (reg_of (b % 8))) bytes _ ins rest fits (let is =
          eqb-true _ _ row in omega arith) h0 (λ t is. is)
      | inr (_, h0) ↦ elim (branch (eqb (b / 8) 9) _ _ _ h0) [
        | inl (row, h1) ↦
            alone b (0x48 + reg_code (reg_of (b % 8))) bytes _ ins rest fits (let is =
            eqb-true _ _ row in omega arith) h1 (λ t is. is)
        | inr (_, h1) ↦ elim (branch (eqb (b / 8) 10) _ _ _ h1) [
          | inl (row, h2) ↦
              alone b (0x50 + reg_code (reg_of (b % 8))) bytes _ ins rest fits (let is =
              eqb-true _ _ row in omega arith) h2 (λ t is. is)
          | inr (_, h2) ↦ elim (branch (eqb (b / 8) 11) _ _ _ h2) [
            | inl (row, h3) ↦
                alone b (0x58 + reg_code (reg_of (b % 8))) bytes _ ins rest fits (let is =
                eqb-true _ _ row in omega arith) h3 (λ t is. is)
            | inr (_, h3) ↦ nothing ins rest h3
          ]
        ]
      ]
    ]

immediate_takes : (b : ℕ) (bytes : List ℕ) (ins : Ins) (rest : List ℕ) → IsBytes bytes
    → immediate_at b bytes ≡ some_read ins rest → Ends ins (b ∷ bytes) rest
unfolding immediate_at
immediate_takes b bytes ins rest fits e =
    let n = bind_some (doubleword_at bytes) _ _ e in
    let i = doubleword_takes bytes n.0.0 n.0.1 fits n.1 in
    elim (branch (eqb b 0x68) _ _ _ n.2) [
      | inl (row, h0) ↦
          ends _ _ ins _ rest h0 (immediate IsDoubleword b 0x68 _ bytes n.0.1 (eqb-true _ _ row) i)
      | inr (_, h0) ↦ elim (branch (eqb b 0xE8) _ _ _ h0) [
        | inl (row, h1) ↦
            ends _ _ ins _ rest h1 (immediate IsDoubleword b 0xE8 _ bytes n.0.1
            (eqb-true _ _ row) i)
        | inr (_, h1) ↦ elim (branch (eqb b 0xE9) _ _ _ h1) [
          | inl (row, h2) ↦
              ends _ _ ins _ rest h2 (as_is _ _ (λ _ s. inl s)
              (immediate IsDoubleword b 0xE9 _ bytes n.0.1 (eqb-true _ _ row) i))
          | inr (_, h2) ↦ elim (branch (eqb (b / 8) 0x17) _ _ _ h2) [
            | inl (row, h3) ↦
                let code : reg_code (reg_of (b % 8)) ≡ b % 8 = reg_takes (b % 8) (omega arith) in
                let high = eqb-true _ _ row in
                let is : b ≡ 0xB8 + reg_code (reg_of (b % 8)) = omega arith in
                ends _ _ ins _ rest h3 (as_is _ _ (λ _ s. inl s)
                (immediate IsDoubleword b (0xB8 + reg_code (reg_of (b % 8))) _
                bytes n.0.1 is i))
            | inr (_, h3) ↦ nothing ins rest h3
          ]
        ]
      ]
    ]

short_jcc_takes : (b : ℕ) (bytes : List ℕ) (ins : Ins) (rest : List ℕ) → IsBytes bytes → 0x70 ≤ b
    → b < 0x80 → short_jcc_at b bytes ≡ some_read ins rest → Ends ins (b ∷ bytes) rest
unfolding short_jcc_at
short_jcc_takes b bytes ins rest fits from below e =
    let c = bind_some (cond_of (b % 16)) _ _ e in
    let n = bind_some (signed_byte_at bytes) _ _ c.2 in
    let code = cond_found (b % 16) c.0 c.1 in
    let is : b ≡ 0x70 + cond_code c.0 = omega arith in
    ends _ _ ins _ rest n.2 (as_is _ _ (λ _ s. inr s)
    (immediate IsSignedByte b (0x70 + cond_code c.0) _ bytes n.0.1 is
    (signed_takes bytes n.0.0 n.0.1 fits n.1)))

jcc_takes : (b : ℕ) (bytes : List ℕ) (ins : Ins) (rest : List ℕ) → IsBytes bytes → b / 16 ≡ 8
    → jcc_at b bytes ≡ some_read ins rest → Ends ins (0x0F ∷ b ∷ bytes) rest
unfolding jcc_at
jcc_takes b bytes ins rest fits high e =
    let c = bind_some (cond_of (b % 16)) _ _ e in
    let n = bind_some (doubleword_at bytes) _ _ c.2 in
    let code = cond_found (b % 16) c.0 c.1 in
    let is : b ≡ 0x80 + cond_code c.0 = omega arith in
    let i = doubleword_takes bytes n.0.0 n.0.1 fits n.1 in
    ends _ _ ins _ rest n.2 (record {
      text = 0x0F ∷ b ∷ i.text;
      spelled = inl (i.text, i.spelled, ap (λ k. 0x0F ∷ k ∷ i.text) is);
      parts = ap (λ (r : List ℕ). 0x0F ∷ b ∷ r) i.parts;
      rest_fits = i.rest_fits;
    })

short_imm_takes : (bytes : List ℕ) (ins : Ins) (rest : List ℕ) → IsBytes bytes
    → alu_imm_at 0x83 bytes ≡ some_read ins rest → Ends ins (0x83 ∷ bytes) rest
unfolding alu_imm_at
short_imm_takes bytes ins rest fits e =
    let o = bind_some (operands_at bytes) _ _ e in
    let p = bind_some (alu_of o.0.0.reg) _ _ o.2 in
    let n = bind_some (signed_byte_at o.0.1) _ _ p.2 in
    let t = with_code bytes o.0.0 o.0.1 (alu_code p.0) fits o.1 (alu_found _ p.0 p.1) in
    let i = signed_takes o.0.1 n.0.0 n.0.1 t.rest_fits n.1 in
    ends _ _ ins _ rest n.2 (as_is _ _ (λ _ s. inl s)
    (slash_immediate IsSignedByte 0x83 _ _ _ bytes o.0.1 n.0.1 t i))

long_imm_takes : (bytes : List ℕ) (ins : Ins) (rest : List ℕ) → IsBytes bytes
    → alu_imm_at 0x81 bytes ≡ some_read ins rest → Ends ins (0x81 ∷ bytes) rest
unfolding alu_imm_at
long_imm_takes bytes ins rest fits e =
    let o = bind_some (operands_at bytes) _ _ e in
    let p = bind_some (alu_of o.0.0.reg) _ _ o.2 in
    let n = bind_some (doubleword_at o.0.1) _ _ p.2 in
    let t = with_code bytes o.0.0 o.0.1 (alu_code p.0) fits o.1 (alu_found _ p.0 p.1) in
    let i = doubleword_takes o.0.1 n.0.0 n.0.1 t.rest_fits n.1 in
    ends _ _ ins _ rest n.2 (as_is _ _ (λ _ s. inr s)
    (slash_immediate IsDoubleword 0x81 _ _ _ bytes o.0.1 n.0.1 t i))

mov_ins_takes : (b reg : ℕ) (rm : Rm) (bytes : List ℕ) (ins : Ins) (rest : List ℕ)
    → mov_ins b reg rm ≡ Some ins → reg < 8 → Took (SpellsRm reg rm) bytes rest
    → Ends ins (b ∷ bytes) rest
mov_ins_takes b reg rm bytes ins rest e lt raw =
    let t : Took (SpellsRm (reg_code (reg_of reg)) rm) bytes rest =
    subst (λ k. Took (SpellsRm k rm) bytes rest) (sym (reg_takes reg lt)) raw in
    let this : (i : Ins) → ◌≡◌ {A = Option Ins} (Some i) (Some ins) → Ends i (b ∷ bytes) rest
    → Ends ins (b ∷ bytes) rest =
    λ i h made. subst (λ (j : Ins). Ends j (b ∷ bytes) rest) (some_is i ins h) made in
    elim (branch (eqb b 0x85) _ _ _ e) [
      | inl (row, h0) ↦ this _ h0 (slash b 0x85 _ _ bytes rest (eqb-true _ _ row) t)
      | inr (_, h0) ↦ elim (branch (eqb b 0x88) _ _ _ h0) [
        | inl (row, h1) ↦
            byte_to_ends reg rm ins _ _ h1 (slash b 0x88 _ _ bytes rest (eqb-true _ _ row) raw)
        | inr (_, h1) ↦ elim (branch (eqb b 0x89) _ _ _ h1) [
          | inl (row, h2) ↦
              this _ h2 (as_is _ _ (λ _ s. inl s)
              (slash b 0x89 _ _ bytes rest (eqb-true _ _ row) t))
          | inr (_, h2) ↦ elim (branch (eqb b 0x8A) _ _ _ h2) [
            | inl (row, h3) ↦
                byte_from_ends reg rm ins _ _ h3
                (slash b 0x8A _ _ bytes rest (eqb-true _ _ row) raw)
            | inr (_, h3) ↦ elim (branch (eqb b 0x8B) _ _ _ h3) [
              | inl (row, h4) ↦
                  this _ h4 (mov_from_ends (reg_of reg) rm _ _
                  (slash b 0x8B _ _ bytes rest (eqb-true _ _ row) t))
              | inr (_, h4) ↦ elim (branch (eqb b 0x8D) _ _ _ h4) [
                | inl (row, h5) ↦
                    lea_ends (reg_of reg) rm ins _ _ h5
                    (slash b 0x8D _ _ bytes rest (eqb-true _ _ row) t)
                | inr (_, h5) ↦ no_ins ins h5
              ]
            ]
          ]
        ]
      ]
    ]

mov_takes : (b : ℕ) (bytes : List ℕ) (ins : Ins) (rest : List ℕ) → IsBytes bytes
    → mov_at b bytes ≡ some_read ins rest → Ends ins (b ∷ bytes) rest
unfolding mov_at
mov_takes b bytes ins rest fits e =
    let o = bind_some (operands_at bytes) _ _ e in
    let i = bind_some (mov_ins b o.0.0.reg o.0.0.rm) _ _ o.2 in
    let t = operands_takes bytes o.0.0 o.0.1 fits o.1 in
    ends _ _ ins _ rest i.2 (mov_ins_takes b o.0.0.reg o.0.0.rm bytes i.0 o.0.1 i.1 t.1 t.0)

shift_takes : (bytes : List ℕ) (ins : Ins) (rest : List ℕ) → IsBytes bytes
    → shift_at bytes ≡ some_read ins rest → Ends ins (0xC1 ∷ bytes) rest
unfolding shift_at
shift_takes bytes ins rest fits e =
    let o = bind_some (operands_at bytes) _ _ e in
    let p = bind_some (shift_of o.0.0.reg) _ _ o.2 in
    let n = bind_some (byte_at o.0.1) _ _ p.2 in
    let t = with_code bytes o.0.0 o.0.1 (shift_code p.0) fits o.1 (shift_found _ p.0 p.1) in
    ends _ _ ins _ rest n.2 (slash_immediate IsByte 0xC1 _ _ _ bytes o.0.1 n.0.1 t
    (byte_takes o.0.1 n.0.0 n.0.1 t.rest_fits n.1))

put_takes : (bytes : List ℕ) (ins : Ins) (rest : List ℕ) → IsBytes bytes
    → put_at bytes ≡ some_read ins rest → Ends ins (0xC7 ∷ bytes) rest
unfolding put_at
put_takes bytes ins rest fits e =
    let o = bind_some (operands_at bytes) _ _ e in
    elim (branch (eqb o.0.0.reg 0) _ _ _ o.2) [
      | inl (is, h) ↦
          let t = with_code bytes o.0.0 o.0.1 0 fits o.1 (eqb-true _ _ is) in
          let n = bind_some (doubleword_at o.0.1) _ _ h in
          let i = doubleword_takes o.0.1 n.0.0 n.0.1 t.rest_fits n.1 in
          ends _ _ ins _ rest n.2 (put_ends o.0.0.rm n.0.0 _ _
          (slash_immediate IsDoubleword 0xC7 _ _ _ bytes o.0.1 n.0.1 t i))
      | inr (_, h) ↦ nothing ins rest h
    ]

gate_takes : (bytes : List ℕ) (ins : Ins) (rest : List ℕ) → IsBytes bytes
    → gate_at bytes ≡ some_read ins rest → Ends ins (0xCD ∷ bytes) rest
unfolding gate_at
gate_takes bytes ins rest fits e =
    let n = bind_some (byte_at bytes) _ _ e in
    ends _ _ ins _ rest n.2 (immediate IsByte 0xCD 0xCD _ bytes n.0.1 refl
    (byte_takes bytes n.0.0 n.0.1 fits n.1))

short_jmp_takes : (bytes : List ℕ) (ins : Ins) (rest : List ℕ) → IsBytes bytes
    → short_jmp_at bytes ≡ some_read ins rest → Ends ins (0xEB ∷ bytes) rest
unfolding short_jmp_at
short_jmp_takes bytes ins rest fits e =
    let n = bind_some (signed_byte_at bytes) _ _ e in
    ends _ _ ins _ rest n.2 (as_is _ _ (λ _ s. inr s)
    (immediate IsSignedByte 0xEB 0xEB _ bytes n.0.1 refl
    (signed_takes bytes n.0.0 n.0.1 fits n.1)))

unary_takes : (bytes : List ℕ) (ins : Ins) (rest : List ℕ) → IsBytes bytes
    → unary_at bytes ≡ some_read ins rest → Ends ins (0xF7 ∷ bytes) rest
unfolding unary_at
unary_takes bytes ins rest fits e =
    let o = bind_some (operands_at bytes) _ _ e in
    let p = bind_some (unary_of o.0.0.reg) _ _ o.2 in
    ends _ _ ins _ rest p.2 (slash 0xF7 0xF7 _ _ bytes o.0.1 refl
    (with_code bytes o.0.0 o.0.1 (unary_code p.0) fits o.1 (unary_found _ p.0 p.1)))

imul_takes : (b : ℕ) (bytes : List ℕ) (ins : Ins) (rest : List ℕ) → IsBytes bytes → b ≡ 0xAF
    → imul_at bytes ≡ some_read ins rest → Ends ins (0x0F ∷ b ∷ bytes) rest
unfolding imul_at
imul_takes b bytes ins rest fits is e =
    let o = bind_some (operands_at bytes) _ _ e in
    ends _ _ ins _ rest o.2 (escaped_slash b 0xAF _ _ bytes o.0.1 is
    (with_reg bytes o.0.0 o.0.1 fits o.1))

widen_takes : (b : ℕ) (bytes : List ℕ) (ins : Ins) (rest : List ℕ) → IsBytes bytes → b ≡ 0xB6
    → widen_at bytes ≡ some_read ins rest → Ends ins (0x0F ∷ b ∷ bytes) rest
unfolding widen_at
widen_takes b bytes ins rest fits is e =
    let o = bind_some (operands_at bytes) _ _ e in
    let i = bind_some (widen (reg_of o.0.0.reg) o.0.0.rm) _ _ o.2 in
    ends _ _ ins _ rest i.2 (widen_ends (reg_of o.0.0.reg) o.0.0.rm i.0 _ _ i.1
    (escaped_slash b 0xB6 _ _ bytes o.0.1 is (with_reg bytes o.0.0 o.0.1 fits o.1)))

two_byte_takes : (bytes : List ℕ) (ins : Ins) (rest : List ℕ) → IsBytes bytes
    → two_byte_at bytes ≡ some_read ins rest → Ends ins (0x0F ∷ bytes) rest
unfolding two_byte_at
two_byte_takes [] ins rest fits e = nothing ins rest e
two_byte_takes (b ∷ bytes) ins rest fits e =
    let after = IsBytes-rest b bytes fits in
    elim (branch (eqb (b / 16) 8) _ _ _ e) [
      | inl (row, h) ↦ jcc_takes b bytes ins rest after (eqb-true _ _ row) h
      | inr (_, h) ↦ elim (branch (eqb b 0xAF) _ _ _ h) [
        | inl (row, k) ↦ imul_takes b bytes ins rest after (eqb-true _ _ row) k
        | inr (_, k) ↦ elim (branch (eqb b 0xB6) _ _ _ k) [
          | inl (row, l) ↦ widen_takes b bytes ins rest after (eqb-true _ _ row) l
          | inr (_, l) ↦ nothing ins rest l
        ]
      ]
    ]

-- ---- by the opcode

at_opcode : (b opcode : ℕ) (bytes : List ℕ) (ins : Ins) (rest : List ℕ) → eqb b opcode ≡ true
    → Ends ins (opcode ∷ bytes) rest → Ends ins (b ∷ bytes) rest
at_opcode b opcode bytes ins rest e t =
    subst (λ k. Ends ins (k ∷ bytes) rest) (sym (eqb-true _ _ e)) t

imm_at : (b opcode : ℕ) (bytes : List ℕ) (ins : Ins) (rest : List ℕ) → eqb b opcode ≡ true
    → alu_imm_at b bytes ≡ some_read ins rest → alu_imm_at opcode bytes ≡ some_read ins rest
imm_at b opcode bytes ins rest e h = ap (λ k. alu_imm_at k bytes) (sym (eqb-true _ _ e)) ∙ h

low_takes : (b : ℕ) (bytes : List ℕ) (ins : Ins) (rest : List ℕ) → IsBytes bytes
    → low_at b bytes ≡ some_read ins rest → Ends ins (b ∷ bytes) rest
unfolding low_at
low_takes b bytes ins rest fits e =
    elim (branch (eqb b 0x0F) _ _ _ e) [
      | inl (row, h0) ↦ at_opcode b 0x0F bytes ins rest row (two_byte_takes bytes ins rest fits h0)
      | inr (_, h0) ↦ elim (branch (ltb b 0x40) _ _ _ h0) [
        | inl (_, h1) ↦ alu_takes b bytes ins rest fits h1
        | inr (_, h1) ↦ elim (branch (ltb b 0x60) _ _ _ h1) [
          | inl (_, h2) ↦ register_takes b bytes ins rest fits h2
          | inr (_, h2) ↦ elim (branch (eqb b 0x68) _ _ _ h2) [
            | inl (_, h3) ↦ immediate_takes b bytes ins rest fits h3
            | inr (_, h3) ↦ elim (branch (ltb b 0x70) _ _ _ h3) [
              | inl (_, h4) ↦ nothing ins rest h4
              | inr (from, h4) ↦ elim (branch (ltb b 0x80) _ _ _ h4) [
                | inl (below, h5) ↦
                    short_jcc_takes b bytes ins rest fits (ltb-false _ _ from)
                    (ltb-true _ _ below) h5
                | inr (_, h5) ↦ nothing ins rest h5
              ]
            ]
          ]
        ]
      ]
    ]

middle_takes : (b : ℕ) (bytes : List ℕ) (ins : Ins) (rest : List ℕ) → IsBytes bytes
    → middle_at b bytes ≡ some_read ins rest → Ends ins (b ∷ bytes) rest
unfolding middle_at
middle_takes b bytes ins rest fits e =
    elim (branch (eqb b 0x81) _ _ _ e) [
      | inl (row, h0) ↦
          at_opcode b 0x81 bytes ins rest row
          (long_imm_takes bytes ins rest fits (imm_at b 0x81 bytes ins rest row h0))
      | inr (_, h0) ↦ elim (branch (eqb b 0x83) _ _ _ h0) [
        | inl (row, h1) ↦
            at_opcode b 0x83 bytes ins rest row
            (short_imm_takes bytes ins rest fits (imm_at b 0x83 bytes ins rest row h1))
        | inr (_, h1) ↦ elim (branch (ltb b 0x84) _ _ _ h1) [
          | inl (_, h2) ↦ nothing ins rest h2
          | inr (_, h2) ↦ elim (branch (ltb b 0x90) _ _ _ h2) [
            | inl (_, h3) ↦ mov_takes b bytes ins rest fits h3
            | inr (_, h3) ↦ elim (branch (eqb b 0x90) _ _ _ h3) [
              | inl (row, h4) ↦
                  alone b 0x90 bytes Nop ins rest fits (eqb-true _ _ row) h4 (λ t is. is)
              | inr (_, h4) ↦ elim (branch (ltb b 0xB8) _ _ _ h4) [
                | inl (_, h5) ↦ nothing ins rest h5
                | inr (_, h5) ↦ elim (branch (ltb b 0xC0) _ _ _ h5) [
                  | inl (_, h6) ↦ immediate_takes b bytes ins rest fits h6
                  | inr (_, h6) ↦ nothing ins rest h6
                ]
              ]
            ]
          ]
        ]
      ]
    ]

high_takes : (b : ℕ) (bytes : List ℕ) (ins : Ins) (rest : List ℕ) → IsBytes bytes
    → high_at b bytes ≡ some_read ins rest → Ends ins (b ∷ bytes) rest
unfolding high_at
high_takes b bytes ins rest fits e =
    elim (branch (eqb b 0xC1) _ _ _ e) [
      | inl (row, h0) ↦ at_opcode b 0xC1 bytes ins rest row (shift_takes bytes ins rest fits h0)
      | inr (_, h0) ↦ elim (branch (eqb b 0xC3) _ _ _ h0) [
        | inl (row, h1) ↦ alone b 0xC3 bytes Ret ins rest fits (eqb-true _ _ row) h1 (λ t is. is)
        | inr (_, h1) ↦ elim (branch (eqb b 0xC7) _ _ _ h1) [
          | inl (row, h2) ↦ at_opcode b 0xC7 bytes ins rest row (put_takes bytes ins rest fits h2)
          | inr (_, h2) ↦ elim (branch (eqb b 0xCD) _ _ _ h2) [
            | inl (row, h3) ↦
                at_opcode b 0xCD bytes ins rest row (gate_takes bytes ins rest fits h3)
            | inr (_, h3) ↦ elim (branch (eqb b 0xE8) _ _ _ h3) [
              | inl (_, h4) ↦ immediate_takes b bytes ins rest fits h4
              | inr (_, h4) ↦ elim (branch (eqb b 0xE9) _ _ _ h4) [
                | inl (_, h5) ↦ immediate_takes b bytes ins rest fits h5
                | inr (_, h5) ↦ elim (branch (eqb b 0xEB) _ _ _ h5) [
                  | inl (row, h6) ↦
                      at_opcode b 0xEB bytes ins rest row (short_jmp_takes bytes ins rest fits h6)
                  | inr (_, h6) ↦ elim (branch (eqb b 0xF7) _ _ _ h6) [
                    | inl (row, h7) ↦
                        at_opcode b 0xF7 bytes ins rest row (unary_takes bytes ins rest fits h7)
                    | inr (_, h7) ↦ nothing ins rest h7
                  ]
                ]
              ]
            ]
          ]
        ]
      ]
    ]

pub takes : (bytes : List ℕ) (ins : Ins) (rest : List ℕ) → IsBytes bytes
    → instruction_at bytes ≡ Some (ins, rest) → Took (Spells ins) bytes rest
unfolding instruction_at
takes [] ins rest fits e = nothing ins rest e
takes (b ∷ bytes) ins rest fits e =
    let after = IsBytes-rest b bytes fits in
    elim (branch (ltb b 0x80) _ _ _ e) [
      | inl (_, h) ↦ low_takes b bytes ins rest after h
      | inr (_, h) ↦ elim (branch (ltb b 0xC0) _ _ _ h) [
        | inl (_, k) ↦ middle_takes b bytes ins rest after k
        | inr (_, k) ↦ high_takes b bytes ins rest after k
      ]
    ]
