-- ModRM, SIB and displacement: what is spelled is read, and what is read is spelled.
use Rattle.std.proofs.Common.{◌≡◌, ◌≢◌, ℕ, ◌/◌, ◌%◌, ◌<◌, false, eqb, List, [], ◌∷◌, ◌++◌, Option, Some, None, refl, sym, ap, subst, ◌∙◌, append_assoc, arith, inl, inr}
use Rattle.std.proofs.lemmas.List.{append-nil}
use Rattle.std.proofs.lemmas.Bool.{eqb-true, eqb-false}
use Rattle.i386_profile.specs.declared.operands.Reg.{Reg}
use Rattle.i386_profile.specs.declared.operands.Reg.TheVariants.{Eax, Ecx, Edx, Ebx, Esp, Ebp, Esi, Edi}
use Rattle.i386_profile.specs.declared.operands.Rm.{Rm}
use Rattle.i386_profile.specs.declared.operands.Rm.TheVariants as rms
use Rattle.i386_profile.specs.Codes.{reg_code}
use Rattle.i386_profile.specs.Spelling.{IsByte, modrm, modrm_base, SpellsMemory, SpellsRm}
use Rattle.i386_profile.specs.Reading.{◌>>=◌, reg_of, byte_at, doubleword_at, signed_byte_at, at, displaced_at, rm_at, Operands, operands_at}
use Rattle.i386_profile.proofs.Fields.{IsBytes, IsBytes-rest, bind_some, branch, some_is, Took, doubleword_again, signed_again, byte_takes, doubleword_takes, signed_takes, reg_again, reg_below, reg_takes, modrm_again, operands_of, operands_at-modrm}

-- ---- what is spelled is read

-- a base and its mode, and whatever follows
based_again : (mode reg : ℕ) (base : Reg) (y : List ℕ) → reg < 8 → eqb mode 3 ≡ false
    → (base ≡ Ebp → eqb mode 0 ≡ false)
    → operands_at (modrm_base mode reg base ++ y) ≡ operands_of reg (displaced_at mode base y)
unfolding rm_at
based_again mode reg Eax y h m e = rw (operands_at-modrm mode reg 0 y h (omega arith), m) refl
based_again mode reg Ecx y h m e = rw (operands_at-modrm mode reg 1 y h (omega arith), m) refl
based_again mode reg Edx y h m e = rw (operands_at-modrm mode reg 2 y h (omega arith), m) refl
based_again mode reg Ebx y h m e = rw (operands_at-modrm mode reg 3 y h (omega arith), m) refl
based_again mode reg Esp y h m e =
    rw (operands_at-modrm mode reg 4 (0x24 ∷ y) h (omega arith), m) refl
based_again mode reg Ebp y h m e = let not_absolute =
    e refl in rw (operands_at-modrm mode reg 5 y h (omega arith), m, not_absolute) refl
based_again mode reg Esi y h m e = rw (operands_at-modrm mode reg 6 y h (omega arith), m) refl
based_again mode reg Edi y h m e = rw (operands_at-modrm mode reg 7 y h (omega arith), m) refl

memory_again : (reg : ℕ) (base : Option Reg) (disp : ℕ) (o x : List ℕ) → reg < 8
    → SpellsMemory reg base disp o
    → operands_at (o ++ x) ≡ Some (record { reg = reg; rm = at base disp }, x)
unfolding rm_at displaced_at operands_of
memory_again reg None disp o x h (d, is, e) =
    rw (e, operands_at-modrm 0 reg 5 (d ++ x) h (omega arith), doubleword_again disp d x is) refl
memory_again reg (Some base) disp o x h (mode, d, inl (m, other, none, nil), e) =
    rw (e, m, none, nil, append-nil (modrm_base 0 reg base))
    (based_again 0 reg base x h refl (λ same. absurd (other same)))
memory_again reg (Some base) disp o x h (mode, d, inr (inl (m, is)), e) =
    rw (e, m, append_assoc (modrm_base 1 reg base) d x)
    (based_again 1 reg base (d ++ x) h refl (λ same. refl) ∙ rw (signed_again disp d x is) refl)
memory_again reg (Some base) disp o x h (mode, d, inr (inr (m, is)), e) =
    rw (e, m, append_assoc (modrm_base 2 reg base) d x)
    (based_again 2 reg base (d ++ x) h refl (λ same. refl)
    ∙ rw (doubleword_again disp d x is) refl)

pub operands_again : (reg : ℕ) (rm : Rm) (o x : List ℕ) → reg < 8 → SpellsRm reg rm o
    → operands_at (o ++ x) ≡ Some (record { reg = reg; rm = rm }, x)
unfolding rm_at operands_of
operands_again reg (rms.Reg r) o x h e =
    rw (e, operands_at-modrm 3 reg (reg_code r) x h (reg_below r), reg_again r) refl
operands_again reg (rms.Mem m) o x h spelled = memory_again reg m.base m.disp o x h spelled

-- ---- what is read is spelled

-- a displacement after its base
record Displaced (mode reg : ℕ) (base : Reg) (rm : Rm) (bytes rest : List ℕ) : Type 0 where
  text : List ℕ
  spelled : SpellsRm reg rm (modrm_base mode reg base ++ text)
  parts : bytes ≡ text ++ rest
  rest_fits : IsBytes rest

displaced_takes : (mode reg : ℕ) (base : Reg) (bytes : List ℕ) (rm : Rm) (rest : List ℕ)
    → IsBytes bytes → mode < 3 → (base ≡ Ebp → mode ≢ 0)
    → displaced_at mode base bytes ≡ Some (rm, rest) → Displaced mode reg base rm bytes rest
unfolding displaced_at
displaced_takes mode reg base bytes rm rest fits lt other e =
    elim (branch (eqb mode 0) _ _ _ e) [
      | inl (zero-is, h) ↦
          let is : mode ≡ 0 = eqb-true mode 0 zero-is in
          let same = some_is (at (Some base) 0, bytes) (rm, rest) h in
          subst (λ (p : Rm × List ℕ). Displaced mode reg base p.0 bytes p.1) same
          (record {
            text = [];
            spelled =
                (mode, [], inl (is, λ ebp. other ebp is, refl, refl), refl);
            parts =
                refl;
            rest_fits = fits;
          })
      | inr (nonzero, h) ↦ elim (branch (eqb mode 1) _ _ _ h) [
        | inl (one-is, k) ↦
            let b = bind_some (signed_byte_at bytes) _ _ k in
            let t = signed_takes bytes b.0.0 b.0.1 fits b.1 in
            let same = some_is (at (Some base) b.0.0, b.0.1) (rm, rest) b.2 in
            subst (λ (p : Rm × List ℕ). Displaced mode reg base p.0 bytes p.1) same
            (record {
              text = t.text;
              spelled =
                  (mode, t.text, inr (inl (eqb-true mode 1 one-is, t.spelled)), refl);
              parts =
                  t.parts;
              rest_fits = t.rest_fits;
            })
        | inr (not_one, k) ↦
            let b = bind_some (doubleword_at bytes) _ _ k in
            let t = doubleword_takes bytes b.0.0 b.0.1 fits b.1 in
            let same = some_is (at (Some base) b.0.0, b.0.1) (rm, rest) b.2 in
            let not0 = eqb-false mode 0 nonzero in
            let not1 = eqb-false mode 1 not_one in
            let is : mode ≡ 2 = omega (arith, not0, not1) in
            subst (λ (p : Rm × List ℕ). Displaced mode reg base p.0 bytes p.1) same
            (record {
              text = t.text;
              spelled =
                  (mode, t.text, inr (inr (is, t.spelled)), refl);
              parts =
                  t.parts;
              rest_fits = t.rest_fits;
            })
      ]
    ]

based_other : (mode reg : ℕ) (base : Reg) → base ≢ Esp
    → modrm_base mode reg base ≡ modrm mode reg (reg_code base) ∷ []
based_other mode reg Eax h = refl
based_other mode reg Ecx h = refl
based_other mode reg Edx h = refl
based_other mode reg Ebx h = refl
based_other mode reg Esp h = absurd (h refl)
based_other mode reg Ebp h = refl
based_other mode reg Esi h = refl
based_other mode reg Edi h = refl

-- a ModRM byte before the rest of an operand
after_modrm : (m : ℕ) (base : Reg) (rm : Rm) (bytes rest : List ℕ)
    → m % 8 ≡ reg_code base → base ≢ Esp
    → Displaced (m / 64) (m / 8 % 8) base rm bytes rest
    → Took (SpellsRm (m / 8 % 8) rm) (m ∷ bytes) rest
after_modrm m base rm bytes rest code-is other d =
    let head : modrm_base (m / 64) (m / 8 % 8) base ≡ m ∷ [] =
    based_other _ _ base other ∙ ap (λ k. modrm (m / 64) (m / 8 % 8) k ∷ []) (sym code-is)
    ∙ ap (λ k. k ∷ []) (modrm_again m) in
    record {
      text = m ∷ d.text;
      spelled = subst (λ (f : List ℕ). SpellsRm (m / 8 % 8) rm (f ++ d.text)) head d.spelled;
      parts = ap (λ (r : List ℕ). m ∷ r) d.parts;
      rest_fits = d.rest_fits;
    }

-- mod 11
register_takes : (m : ℕ) (bytes : List ℕ) (rm : Rm) (rest : List ℕ) → IsBytes bytes → m / 64 ≡ 3
    → ◌≡◌ {A = Option (Rm × List ℕ)} (Some (rms.Reg (reg_of (m % 8)), bytes)) (Some (rm, rest))
    → Took (SpellsRm (m / 8 % 8) rm) (m ∷ bytes) rest
register_takes m bytes rm rest fits three e =
    let same = some_is (rms.Reg (reg_of (m % 8)), bytes) (rm, rest) e in
    let below : m % 8 < 8 = omega arith in
    let byte-is : m ≡ modrm 3 (m / 8 % 8) (reg_code (reg_of (m % 8))) =
    sym (modrm_again m) ∙ ap (λ k. modrm k (m / 8 % 8) (m % 8)) three
    ∙ ap (modrm 3 (m / 8 % 8)) (sym (reg_takes (m % 8) below)) in
    subst (λ (p : Rm × List ℕ). Took (SpellsRm (m / 8 % 8) p.0) (m ∷ bytes) p.1) same
    (record { text = m ∷ []; spelled = ap (λ k. k ∷ []) byte-is; parts = refl; rest_fits = fits })

-- rm 100 and the SIB byte 24
sib_takes : (m sib : ℕ) (bytes after : List ℕ) (rm : Rm) (rest : List ℕ) → m / 64 < 3 → m % 8 ≡ 4
    → sib ≡ 0x24 → Took (IsByte sib) bytes after
    → displaced_at (m / 64) Esp after ≡ Some (rm, rest)
    → Took (SpellsRm (m / 8 % 8) rm) (m ∷ bytes) rest
sib_takes m sib bytes after rm rest memory four is t e =
    let d = displaced_takes (m / 64) (m / 8 % 8) Esp after rm rest t.rest_fits memory
    (λ same. absurd cc) e in
    let head : modrm_base (m / 64) (m / 8 % 8) Esp ≡ m ∷ t.text =
    ap (λ k. modrm (m / 64) (m / 8 % 8) k ∷ 0x24 ∷ []) (sym four)
    ∙ ap (λ k. k ∷ 0x24 ∷ []) (modrm_again m)
    ∙ ap (λ k. m ∷ k ∷ []) (sym is) ∙ ap (λ (u : List ℕ). m ∷ u) (sym t.spelled.1) in
    record {
      text = (m ∷ t.text) ++ d.text;
      spelled = subst (λ (f : List ℕ). SpellsRm (m / 8 % 8) rm (f ++ d.text)) head d.spelled;
      parts = ap (λ (r : List ℕ). m ∷ r) (t.parts ∙ ap (λ (r : List ℕ). t.text ++ r) d.parts
          ∙ sym (append_assoc t.text d.text rest));
      rest_fits = d.rest_fits;
    }

-- mod 00 with rm 101
abbrev absolute_at : List ℕ → Option (Rm × List ℕ)
absolute_at bytes = doubleword_at bytes >>= λ d. Some (at None d.0, d.1)

absolute_takes : (m : ℕ) (bytes : List ℕ) (rm : Rm) (rest : List ℕ) → IsBytes bytes
    → m / 64 ≡ 0 → m % 8 ≡ 5
    → absolute_at bytes ≡ Some (rm, rest) → Took (SpellsRm (m / 8 % 8) rm) (m ∷ bytes) rest
absolute_takes m bytes rm rest fits absolute five e =
    let b = bind_some (doubleword_at bytes) _ _ e in
    let t = doubleword_takes bytes b.0.0 b.0.1 fits b.1 in
    let same = some_is (at None b.0.0, b.0.1) (rm, rest) b.2 in
    let head : m ≡ modrm 0 (m / 8 % 8) 5 =
    sym (modrm_again m) ∙ ap (λ k. modrm k (m / 8 % 8) (m % 8)) absolute
    ∙ ap (modrm 0 (m / 8 % 8)) five in
    subst (λ (p : Rm × List ℕ). Took (SpellsRm (m / 8 % 8) p.0) (m ∷ bytes) p.1) same
    (record {
      text = m ∷ t.text;
      spelled = (t.text, t.spelled, ap (λ k. k ∷ t.text) head);
      parts =
          ap (λ (r : List ℕ). m ∷ r) t.parts;
      rest_fits = t.rest_fits;
    })

-- a base that has neither
plain_takes : (m : ℕ) (bytes : List ℕ) (rm : Rm) (rest : List ℕ) → IsBytes bytes → m / 64 < 3
    → m % 8 ≢ 4 → m % 8 ≢ 5
    → displaced_at (m / 64) (reg_of (m % 8)) bytes ≡ Some (rm, rest)
    → Took (SpellsRm (m / 8 % 8) rm) (m ∷ bytes) rest
plain_takes m bytes rm rest fits memory not4 not5 e =
    let code-is : reg_code (reg_of (m % 8)) ≡ m % 8 = reg_takes (m % 8) (omega arith) in
    let not_esp : reg_of (m % 8) ≢ Esp = λ same. not4 (sym code-is ∙ ap reg_code same) in
    let not_ebp : reg_of (m % 8) ≡ Ebp → m / 64 ≢ 0 =
    λ same. absurd (not5 (sym code-is ∙ ap reg_code same)) in
    after_modrm m (reg_of (m % 8)) rm bytes rest (sym code-is) not_esp
    (displaced_takes (m / 64) (m / 8 % 8) (reg_of (m % 8)) bytes rm rest fits memory not_ebp e)

rm_takes : (m : ℕ) (bytes : List ℕ) (rm : Rm) (rest : List ℕ) → m < 256 → IsBytes bytes
    → rm_at (m / 64) (m % 8) bytes ≡ Some (rm, rest)
    → Took (SpellsRm (m / 8 % 8) rm) (m ∷ bytes) rest
unfolding rm_at
rm_takes m bytes rm rest lt fits e =
    elim (branch (eqb (m / 64) 3) _ _ _ e) [
      | inl (three, h) ↦ register_takes m bytes rm rest fits (eqb-true _ _ three) h
      | inr (not_three, h) ↦
          let not3 = eqb-false _ _ not_three in
          let memory : m / 64 < 3 = omega (arith, not3) in
          elim (branch (eqb (m % 8) 4) _ _ _ h) [
            | inl (four, k) ↦
                let s = bind_some (byte_at bytes) _ _ k in
                elim (branch (eqb s.0.0 0x24) _ _ _ s.2) [
                  | inl (sib, l) ↦
                      sib_takes m s.0.0 bytes s.0.1 rm rest memory (eqb-true _ _ four)
                      (eqb-true _ _ sib) (byte_takes bytes s.0.0 s.0.1 fits s.1) l
                  | inr (_, l) ↦
                      absurd (let none : ◌≡◌ {A =
                      Option (Rm × List ℕ)} None (Some (rm, rest)) = l in cc)
                ]
            | inr (not_four, k) ↦ elim (branch (eqb (m % 8) 5) _ _ _ k) [
              | inl (five, l) ↦ elim (branch (eqb (m / 64) 0) _ _ _ l) [
                | inl (absolute, n) ↦
                    absolute_takes m bytes rm rest fits (eqb-true _ _ absolute)
                    (eqb-true _ _ five) n
                | inr (other, n) ↦ after_modrm m Ebp rm bytes rest (eqb-true _ _ five) (λ same. cc)
                    (displaced_takes (m / 64) (m / 8 % 8) Ebp bytes rm rest fits memory
                    (λ same. eqb-false _ _ other) n)
              ]
              | inr (not_five, l) ↦
                  plain_takes m bytes rm rest fits memory (eqb-false _ _ not_four)
                  (eqb-false _ _ not_five) l
            ]
          ]
    ]

pub operands_takes : (bytes : List ℕ) (o : Operands) (rest : List ℕ) → IsBytes bytes
    → operands_at bytes ≡ Some (o, rest) → Took (SpellsRm o.reg o.rm) bytes rest × (o.reg < 8)
unfolding operands_at
operands_takes [] o rest fits e = absurd cc
operands_takes (m ∷ bytes) o rest fits e =
    let b = bind_some (rm_at (m / 64) (m % 8) bytes) _ _ e in
    let made : Operands = record { reg = m / 8 % 8; rm = b.0.0 } in
    let same = some_is (made, b.0.1) (o, rest) b.2 in
    subst (λ (p : Operands × List ℕ). Took (SpellsRm p.0.reg p.0.rm) (m ∷ bytes) p.1
    × (p.0.reg < 8)) same
    (rm_takes m bytes b.0.0 b.0.1 (fits 0) (IsBytes-rest m bytes fits) b.1, omega arith)
