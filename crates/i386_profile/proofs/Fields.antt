-- Numbers and ModRM bytes: what is spelled is read, and what is read is spelled.
use Rattle.std.proofs.Common.{◌≡◌, ℕ, suc, ◌+◌, ◌/◌, ◌%◌, ◌^◌, ◌<◌, ◌≤◌, ◌⊎◌, Bool, true, false, cond, ltb, List, [], ◌∷◌, ◌++◌, length, get_or, take, drop, Option, Some, None, refl, sym, subst, arith, inl, inr}
use Rattle.std.specs.Int.{w32, from_le_bytes, to_le_bytes}
use Rattle.std.proofs.lemmas.Bool.{cases_lt, ltb-false, le-ltb}
use Rattle.std.proofs.lemmas.List.{take-append-drop, length-append, length-take, get_or-drop, get_or-take, get_or_past}
use Rattle.std.proofs.lemmas.Nat.{le_bytes_4, from_le_bytes-to_le_bytes_4}
use Rattle.i386_profile.specs.declared.operands.Reg.{Reg}
use Rattle.i386_profile.specs.declared.operands.Reg.TheVariants.{Eax, Ecx, Edx, Ebx, Esp, Ebp, Esi, Edi}
use Rattle.i386_profile.specs.declared.operands.Rm.{Rm}
use Rattle.i386_profile.specs.Codes.{reg_code}
use Rattle.i386_profile.specs.Spelling.{IsDoubleword, IsByte, IsSignedByte, sign_extended, modrm}
use Rattle.i386_profile.specs.Reading.{◌>>=◌, reg_of, byte_at, doubleword_at, signed_byte_at, rm_at, Operands, operands_at}

-- ---- bytes

abbrev pub IsBytes : List ℕ → Type 0
IsBytes bytes = (i : ℕ) → get_or bytes i 0 < 256

pub IsBytes-rest : (b : ℕ) (bytes : List ℕ) → IsBytes (b ∷ bytes) → IsBytes bytes
IsBytes-rest b bytes h i = h (suc i)

pub IsBytes-drop : (n : ℕ) (bytes : List ℕ) → IsBytes bytes → IsBytes (drop n bytes)
IsBytes-drop n bytes h i = rw get_or-drop (h (n + i))

IsBytes-take : (n : ℕ) (bytes : List ℕ) → IsBytes bytes → IsBytes (take n bytes)
IsBytes-take n bytes h i =
    elim (cases_lt i n) [
      | inl lt ↦ rw (get_or-take n bytes i 0 lt) (h i)
      | inr le ↦
          rw (get_or_past (take n bytes) i 0 (omega (arith, length-take n bytes))) (omega arith)
    ]

-- ---- what a reader answers

-- a reader that answered got its parts
pub bind_some : {A B : Type 0} (r : Option A) (f : A → Option B) (y : B) → (r >>= f) ≡ Some y
    → (x : A) × (r ≡ Some x) × (f x ≡ Some y)
bind_some (Some x) f y e = (x, refl, e)
bind_some None f y e = absurd cc

-- which way a test went
pub branch : {A : Type 0} (b : Bool) (x y z : A) → cond b x y ≡ z → ((b ≡ true) × (x ≡ z))
    ⊎ ((b ≡ false) × (y ≡ z))
branch true x y z e = inl (refl, e)
branch false x y z e = inr (refl, e)

pub some_is : {A : Type 0} (x y : A) → ◌≡◌ {A = Option A} (Some x) (Some y) → x ≡ y
some_is x y e = cc

else_is : {A : Type 0} (b : Bool) (x y z : A) → b ≡ false → y ≡ z → cond b x y ≡ z
else_is true x y z e h = absurd cc
else_is false x y z e h = h

-- A reader took a text that S spells from the beginning of the bytes.
pub record Took (S : List ℕ → Type 0) (bytes rest : List ℕ) : Type 0 where
  pub text : List ℕ
  pub spelled : S text
  pub parts : bytes ≡ text ++ rest
  pub rest_fits : IsBytes rest

-- ---- numbers

pub byte_again : (n : ℕ) (i x : List ℕ) → IsByte n i → byte_at (i ++ x) ≡ Some (n, x)
byte_again n i x h = rw (h.1) refl

pub doubleword_again : (n : ℕ) (i x : List ℕ) → IsDoubleword n i
    → doubleword_at (i ++ x) ≡ Some (n, x)
doubleword_again n i x h =
    let enough : ltb (length (to_le_bytes w32 n ++ x)) 4 ≡ false =
    le-ltb _ _ (omega (arith, length-append (to_le_bytes w32 n) x)) in
    let value : ℕ × List ℕ → ℕ × List ℕ → Type 0 =
    λ a b. ◌≡◌ {A = Option (ℕ × List ℕ)} (Some a) (Some b) in
    let same : value (from_le_bytes w32 (to_le_bytes w32 n), x) (n, x) =
    rw (from_le_bytes-to_le_bytes_4 n h.0) refl in
    rw (h.1) (else_is _ _ _ _ enough same)

pub signed_again : (n : ℕ) (i x : List ℕ) → IsSignedByte n i → signed_byte_at (i ++ x) ≡ Some (n, x)
signed_again n i x (b, lt, value, text) = rw (text, value) refl

pub byte_takes : (bytes : List ℕ) (n : ℕ) (rest : List ℕ) → IsBytes bytes
    → byte_at bytes ≡ Some (n, rest) → Took (IsByte n) bytes rest
byte_takes [] n rest fits e = absurd cc
byte_takes (b ∷ bytes) n rest fits e =
    let same = some_is (b, bytes) (n, rest) e in
    subst (λ (p : ℕ × List ℕ). Took (IsByte p.0) (b ∷ bytes) p.1) same
    (record {
      text = b ∷ [];
      spelled = (fits 0, refl);
      parts = refl;
      rest_fits =
          IsBytes-rest b bytes fits;
    })

pub signed_takes : (bytes : List ℕ) (n : ℕ) (rest : List ℕ) → IsBytes bytes
    → signed_byte_at bytes ≡ Some (n, rest) → Took (IsSignedByte n) bytes rest
signed_takes [] n rest fits e = absurd cc
signed_takes (b ∷ bytes) n rest fits e =
    let same = some_is (sign_extended b, bytes) (n, rest) e in
    subst (λ (p : ℕ × List ℕ). Took (IsSignedByte p.0) (b ∷ bytes) p.1) same
    (record {
      text = b ∷ [];
      spelled = (b, fits 0, refl, refl);
      parts = refl;
      rest_fits =
          IsBytes-rest b bytes fits;
    })

pub doubleword_takes : (bytes : List ℕ) (n : ℕ) (rest : List ℕ) → IsBytes bytes
    → doubleword_at bytes ≡ Some (n, rest) → Took (IsDoubleword n) bytes rest
doubleword_takes bytes n rest fits e =
    elim (branch (ltb (length bytes) 4) None (Some (from_le_bytes w32 (take 4 bytes), drop 4 bytes))
    (Some (n, rest)) e) [
      | inl h ↦ absurd (let none : ◌≡◌ {A = Option (ℕ × List ℕ)} None (Some (n, rest)) = h.1 in cc)
      | inr h ↦
          let same = some_is (from_le_bytes w32 (take 4 bytes), drop 4 bytes) (n, rest) h.1 in
          let enough : 4 ≤ length bytes = ltb-false _ _ h.0 in
          let prefix = IsBytes-take 4 bytes fits in
          let len : length (take 4 bytes) ≡ 4 = omega (arith, length-take 4 bytes) in
          let below : from_le_bytes w32 (take 4 bytes) < 2 ^ 32 =
          omega (arith, prefix 0, prefix 1, prefix 2, prefix 3) in
          let back : to_le_bytes w32 (from_le_bytes w32 (take 4 bytes)) ≡ take 4 bytes =
          le_bytes_4 (take 4 bytes) _ len prefix refl in
          subst (λ (p : ℕ × List ℕ). Took (IsDoubleword p.0) bytes p.1) same
          (record {
            text = take 4 bytes;
            spelled = (below, sym back);
            parts =
                sym (take-append-drop 4 bytes);
            rest_fits = IsBytes-drop 4 bytes fits;
          })
    ]

-- ---- registers and ModRM

pub reg_again : (r : Reg) → reg_of (reg_code r) ≡ r
reg_again Eax = refl
reg_again Ecx = refl
reg_again Edx = refl
reg_again Ebx = refl
reg_again Esp = refl
reg_again Ebp = refl
reg_again Esi = refl
reg_again Edi = refl

pub reg_below : (r : Reg) → reg_code r < 8
reg_below Eax = omega arith
reg_below Ecx = omega arith
reg_below Edx = omega arith
reg_below Ebx = omega arith
reg_below Esp = omega arith
reg_below Ebp = omega arith
reg_below Esi = omega arith
reg_below Edi = omega arith

pub reg_takes : (n : ℕ) → n < 8 → reg_code (reg_of n) ≡ n
reg_takes n lt = grind arith

modrm_mode : (mode reg rm : ℕ) → reg < 8 → rm < 8 → modrm mode reg rm / 64 ≡ mode
unfolding modrm
modrm_mode mode reg rm h k = omega arith

modrm_reg : (mode reg rm : ℕ) → reg < 8 → rm < 8 → modrm mode reg rm / 8 % 8 ≡ reg
unfolding modrm
modrm_reg mode reg rm h k = omega arith

modrm_rm : (mode reg rm : ℕ) → reg < 8 → rm < 8 → modrm mode reg rm % 8 ≡ rm
unfolding modrm
modrm_rm mode reg rm h k = omega arith

pub modrm_again : (m : ℕ) → modrm (m / 64) (m / 8 % 8) (m % 8) ≡ m
unfolding modrm
modrm_again m = omega arith

-- operands with this number in reg
unfoldable pub operands_of : ℕ → Option (Rm × List ℕ) → Option (Operands × List ℕ)
operands_of reg o = o >>= λ r. Some (record { reg = reg; rm = r.0 }, r.1)

-- a ModRM byte at the beginning
pub operands_at-modrm : (mode reg rm : ℕ) (x : List ℕ) → reg < 8 → rm < 8
    → operands_at (modrm mode reg rm ∷ x) ≡ operands_of reg (rm_at mode rm x)
unfolding operands_at operands_of
operands_at-modrm mode reg rm x h k =
    rw (modrm_mode mode reg rm h k, modrm_reg mode reg rm h k, modrm_rm mode reg rm h k) refl
