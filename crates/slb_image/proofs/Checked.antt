-- What it says of bytes that they pass the checks.
use Rattle.std.proofs.Common.{◌≡◌, ℕ, zero, suc, ◌<◌, ◌≤◌, Bool, true, false, cond, eqb, leb, ltb}
use Rattle.std.proofs.Common.{◌||◌, inl, inr, List, length, replicate, Option, Some, None, refl}
use Rattle.std.proofs.Common.{arith}
use Rattle.std.specs.Prelude.{codes, bytes_eq}
use Rattle.std.proofs.lemmas.Bool.{and_parts, or_cases, leb-true, le-leb, ltb-true, lt-ltb}
use Rattle.std.proofs.lemmas.Bool.{eqb-true, eq-eqb}
use Rattle.std.proofs.lemmas.Slice.Eq.{bytes_eq-Decides}
use Rattle.slb_image.specs.declared.fault.ImageFault.{ImageFault}
use Rattle.slb_image.specs.Fields.{entry_field, length_field, mark_field, version_field}
use Rattle.slb_image.specs.Fields.{flags_field, budget_field, reserved_field}
use Rattle.slb_image.specs.Faults.{image_fault}

-- the checks of an image, as facts
pub record Passes (bytes : List ℕ) : Type 0 where
  pub front : 32 ≤ length bytes
  pub some : 33 ≤ length_field bytes
  pub most : length_field bytes ≤ 49152
  pub whole : length_field bytes ≡ length bytes
  pub after : 32 ≤ entry_field bytes
  pub inside : entry_field bytes < length_field bytes
  pub marked : mark_field bytes ≡ codes "FLKC"
  pub first : version_field bytes ≡ 1
  pub flagged : flags_field bytes ≤ 1
  pub turns : 1 ≤ budget_field bytes
  pub bounded : budget_field bytes ≤ 1000000
  pub zeros : reserved_field bytes ≡ replicate 16 0

-- no check failed: neither the first nor one after it
pub passed : (test : Bool) (after : Option ImageFault) (fault : ImageFault)
    → cond test after (Some fault) ≡ None → (test ≡ true) × (after ≡ None)
passed true after fault e = (refl, e)
passed false after fault e = absurd (cc)

-- the test of the flags says that they are at most 1
job_or_not : (n : ℕ) → (eqb n 0 || eqb n 1) ≡ true → n ≤ 1
job_or_not n e = elim (or_cases (eqb n 0) (eqb n 1) e) [
  | inl none ↦ omega (arith, eqb-true n 0 none)
  | inr one ↦ omega (arith, eqb-true n 1 one)
]

-- flags of at most 1 pass the test
flags_of_job : (n : ℕ) → n ≤ 1 → (eqb n 0 || eqb n 1) ≡ true
flags_of_job zero h = refl
flags_of_job (suc zero) h = refl
flags_of_job (suc (suc n)) h = absurd (omega arith)

-- bytes without a fault pass
pub passes : (bytes : List ℕ) → image_fault bytes ≡ None → Passes bytes
unfolding image_fault
passes bytes e =
    let short = passed _ _ _ e in
    let length = passed _ _ _ short.1 in
    let entry = passed _ _ _ length.1 in
    let mark = passed _ _ _ entry.1 in
    let version = passed _ _ _ mark.1 in
    let flags = passed _ _ _ version.1 in
    let budget = passed _ _ _ flags.1 in
    let reserved = passed _ _ _ budget.1 in
    let lengths = and_parts _ _ length.0 in
    let bounds = and_parts _ _ lengths.0 in
    let entries = and_parts _ _ entry.0 in
    let turns = and_parts _ _ budget.0 in
    record {
      front = leb-true _ _ short.0;
      some = leb-true _ _ bounds.0;
      most = leb-true _ _ bounds.1;
      whole = eqb-true _ _ lengths.1;
      after = leb-true _ _ entries.0;
      inside = ltb-true _ _ entries.1;
      marked = (bytes_eq-Decides _ _).0 mark.0;
      first = eqb-true _ _ version.0;
      flagged = job_or_not _ flags.0;
      turns = leb-true _ _ turns.0;
      bounded = leb-true _ _ turns.1;
      zeros = (bytes_eq-Decides _ _).0 reserved.0;
    }

-- bytes that pass have no fault
pub faultless : (bytes : List ℕ) → Passes bytes → image_fault bytes ≡ None
unfolding image_fault
faultless bytes p =
    let short : leb 32 (length bytes) ≡ true = le-leb _ _ p.front in
    let some : leb 33 (length_field bytes) ≡ true = le-leb _ _ p.some in
    let most : leb (length_field bytes) 49152 ≡ true = le-leb _ _ p.most in
    let whole : eqb (length_field bytes) (length bytes) ≡ true = eq-eqb _ _ p.whole in
    let after : leb 32 (entry_field bytes) ≡ true = le-leb _ _ p.after in
    let inside : ltb (entry_field bytes) (length_field bytes) ≡ true = lt-ltb _ _ p.inside in
    let mark : bytes_eq (mark_field bytes) (codes "FLKC") ≡ true =
    (bytes_eq-Decides _ _).1 p.marked in
    let version : eqb (version_field bytes) 1 ≡ true = eq-eqb _ _ p.first in
    let flags : (eqb (flags_field bytes) 0 || eqb (flags_field bytes) 1) ≡ true =
    flags_of_job _ p.flagged in
    let turns : leb 1 (budget_field bytes) ≡ true = le-leb _ _ p.turns in
    let bounded : leb (budget_field bytes) 1000000 ≡ true = le-leb _ _ p.bounded in
    let reserved : bytes_eq (reserved_field bytes) (replicate 16 0) ≡ true =
    (bytes_eq-Decides _ _).1 p.zeros in
    simp (short, some, most, whole, after, inside, mark, version, flags, turns, bounded, reserved)
