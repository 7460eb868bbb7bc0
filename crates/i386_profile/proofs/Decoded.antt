-- Reading and spelling, both ways, for an instruction and its length.
use Rattle.std.proofs.Common.{◌≡◌, ℕ, ◌+◌, ◌-◌, ◌≤◌, List, ◌++◌, length, take, drop, Some, None, sym, ap, subst, ◌∙◌, arith}
use Rattle.std.proofs.lemmas.List.{take-append-drop, append_cancel_right, length-append, length-drop, take_at}
use Rattle.i386_profile.specs.declared.ins.Ins.{Ins}
use Rattle.i386_profile.specs.Spelling.{Spells, Begins, NoneBegins}
use Rattle.i386_profile.specs.Laws.{OneSpelling}
use Rattle.i386_profile.specs.Reading.{instruction_at}
use Rattle.i386_profile.proofs.Fields.{IsBytes, some_is}
use Rattle.i386_profile.proofs.Again.{again}
use Rattle.i386_profile.proofs.Takes.{takes, some_read}
use Rattle.i386_profile.proofs.Lengths.{bounded}

same_found : (i j : Ins) (x y : List ℕ) → some_read i x ≡ some_read j y → (i ≡ j) × (x ≡ y)
same_found i j x y e =
    let same = some_is (i, x) (j, y) e in
    (ap (λ (p : Ins × List ℕ). p.0) same, ap (λ (p : Ins × List ℕ). p.1) same)

pub only_one : OneSpelling
only_one i j a b x y s t e =
    let both : some_read i x ≡ some_read j y =
    sym (again i a x s) ∙ ap instruction_at e ∙ again j b y t in
    let same = same_found i j x y both in
    (append_cancel_right a b x (e ∙ ap (λ (r : List ℕ). b ++ r) (sym same.1)), same.0)

-- what an answer of the reader means
pub record IsFound (bytes rest : List ℕ) (ins : Ins) : Type 0 where
  pub shorter : length rest ≤ length bytes
  pub begins : Begins ins (length bytes - length rest) bytes
  pub least : 1 ≤ length bytes - length rest
  pub most : length bytes - length rest ≤ 11

pub is_found : (bytes rest : List ℕ) (ins : Ins) → IsBytes bytes
    → instruction_at bytes ≡ Some (ins, rest) → IsFound bytes rest ins
is_found bytes rest ins fits e =
    let t = takes bytes ins rest fits e in
    let total : length bytes ≡ length t.text + length rest =
    ap length t.parts ∙ length-append t.text rest in
    let len : length t.text ≡ length bytes - length rest = omega arith in
    let prefix : take (length bytes - length rest) bytes ≡ t.text =
    ap (take (length bytes - length rest)) t.parts
    ∙ take_at t.text rest (length bytes - length rest) len in
    let within = bounded ins t.text t.spelled in
    record {
      shorter = omega arith;
      begins = (omega arith, subst (Spells ins) (sym prefix) t.spelled);
      least = omega arith;
      most = omega arith;
    }

begun : (bytes : List ℕ) (ins : Ins) (n : ℕ) → Begins ins n bytes
    → instruction_at bytes ≡ Some (ins, drop n bytes)
begun bytes ins n h = ap instruction_at (sym (take-append-drop n bytes))
    ∙ again ins (take n bytes) (drop n bytes) h.1

pub is_only : (bytes rest : List ℕ) (ins j : Ins) (n : ℕ) → instruction_at bytes ≡ Some (ins, rest)
    → Begins j n bytes
    → (ins ≡ j) × (length bytes - length rest ≡ n)
is_only bytes rest ins j n e h =
    let same = same_found ins j rest (drop n bytes) (sym e ∙ begun bytes j n h) in
    let len : length rest ≡ length bytes - n = ap length same.1 ∙ length-drop n bytes in
    let within = h.0 in
    (same.0, omega arith)

pub is_none : (bytes : List ℕ) → instruction_at bytes ≡ None → NoneBegins bytes
is_none bytes e j n h = let both : some_read j (drop n bytes) ≡ None =
    sym (begun bytes j n h) ∙ e in cc
