-- Every code has a listing: at each position an instruction begins, or none does.
use Rattle.std.proofs.Common.{◌≡◌, ℕ, zero, suc, ◌+◌, ◌-◌, ◌<◌, ◌≤◌, ◌⊎◌, inl, inr, List, [], ◌∷◌, length, drop, get_or, refl, arith}
use Rattle.std.specs.Prelude.{All, slice_index, Option, Some, None}
use Rattle.std.proofs.lemmas.List.{length-drop, get_or-drop, get_or_past}
use Rattle.i386_profile.specs.declared.ins.Ins.{Ins}
use Rattle.i386_profile.specs.Reading.{instruction_at}
use Rattle.i386_profile.proofs.Fields.{IsBytes}
use Rattle.i386_profile.proofs.Decoded.{is_found, is_none}
use Rattle.pal_asm.specs.Listing.{Met, Decoded, Lone, Meets, text_of, Lists}

-- what is met from a position on
abbrev IsMet : ℕ → List ℕ → Type 0
IsMet at code = (met : List Met) × Meets at met code

byte_at : (code : List ℕ) (i : ℕ) → All (λ byte. byte < 256) code → (i < length code)
    ⊎ (length code ≤ i) → get_or code i 0 < 256
byte_at code i low (inl lt) = low i 0 lt
byte_at code i low (inr le) = omega (arith, get_or_past code i 0 le)

either : (m n : ℕ) → (m < n) ⊎ (n ≤ m)
either m n = grind arith

bytes_from : (code : List ℕ) (at : ℕ) → All (λ byte. byte < 256) code → IsBytes (drop at code)
bytes_from code at low i =
    omega (
      arith,
      get_or-drop at code i 0,
      byte_at code (at + i) low
          (either (at + i) (length code)),
    )

-- one statement more, by what the bytes are read as
met_by : (code : List ℕ) (at : ℕ) → All (λ byte. byte < 256) code → at < length code
    → ((n : ℕ) → 1 ≤ n → at + n ≤ length code → IsMet (at + n) code)
    → (o : Option (Ins × List ℕ)) → instruction_at (drop at code) ≡ o → IsMet at code
met_by code at low lt more None e =
    let after = more 1 (omega arith) (omega arith) in
    (Lone (slice_index code at) ∷ after.0, (lt, is_none (drop at code) e, refl, after.1))
met_by code at low lt more (Some (ins, rest)) e =
    let found = is_found (drop at code) rest ins (bytes_from code at low) e in
    let n = length (drop at code) - length rest in
    let after = more n found.least (omega (arith, found.begins.0, length-drop at code)) in
    (Decoded ins n ∷ after.0, (lt, found.begins, after.1))

met_or_end : (code : List ℕ) (at : ℕ) → All (λ byte. byte < 256) code
    → ((n : ℕ) → 1 ≤ n → at + n ≤ length code → IsMet (at + n) code)
    → at ≤ length code → (at < length code) ⊎ (length code ≤ at) → IsMet at code
met_or_end code at low more le (inl lt) =
    met_by code at low lt more (instruction_at (drop at code)) refl
met_or_end code at low more le (inr past) = ([], omega arith)

-- by how many bytes are left at most
met_within : (left at : ℕ) (code : List ℕ) → All (λ byte. byte < 256) code → at ≤ length code
    → length code ≤ at + left → IsMet at code
met_within zero at code low le within = ([], omega arith)
met_within (suc left) at code low le within =
    met_or_end code at low (λ n least fits. met_within left (at + n) code low fits (omega arith)) le
    (either at (length code))

pub each_listed : (code : List ℕ) → All (λ byte. byte < 256) code
    → (text : List ℕ) × Lists code text
each_listed code low =
    let all = met_within (length code) 0 code low (omega arith) (omega arith) in
    (text_of 0 all.0, (all.0, all.1, refl))
