-- Which bytes devices may write.
use Rattle.std.proofs.Common.{◌≡◌, ℕ, zero, suc, ◌+◌, ◌-◌, ◌<◌, ◌≤◌, List, [], ◌∷◌}
use Rattle.std.proofs.Common.{length, get_or, refl, sym, ap, ◌∙◌, inl, inr, arith, Bool, true}
use Rattle.std.proofs.Common.{false, not, Some, slice_get}
use Rattle.std.specs.List.{list_all, range_with_len}
use Rattle.std.proofs.lemmas.Bool.{cases_lt, cases_eq, cases_Bool, and_parts, and_cases, and_from}
use Rattle.std.proofs.lemmas.Bool.{both_ways, not-true, not-false, not_from_false}
use Rattle.std.proofs.lemmas.Bool.{false_from_ne_true}
use Rattle.std.proofs.lemmas.List.{get_or_past}
use Rattle.std.proofs.lemmas.Option.{slice_get-get_or, slice_get_within, get_or_from_slice_get}
use Rattle.machine_memory.specs.Writes.{part}
use Rattle.machine_memory.specs.Contents.{Contents, frame_of, first_byte}
use Rattle.machine_memory.specs.DeviceWrites.{IsShut, HasShutByte, is_open, may_write}
use Rattle.machine_memory.proofs.Pieces.{slice_get-part, length-part}

-- the address lies in a frame that is not excluded
abbrev pub IsOpen : List Bool → ℕ → Type 0
IsOpen excluded address = slice_get excluded (frame_of address) ≡ Some false

-- the address lies past all frames, or in an excluded one
pub data IsNotOpen (excluded : List Bool) (address : ℕ) : Type 0 where
  Past : length excluded ≤ frame_of address → IsNotOpen excluded address
  Excluded : slice_get excluded (frame_of address) ≡ Some true → IsNotOpen excluded address

open-true : (excluded : List Bool) (address : ℕ) → is_open excluded address ≡ true
    → IsOpen excluded address
open-true excluded address e =
    let bit = not-true (get_or excluded (frame_of address) true) e in
    elim (cases_lt (frame_of address) (length excluded)) [
      | inl l ↦ slice_get-get_or excluded (frame_of address) true l ∙ ap Some bit
      | inr l ↦ absurd
          (both_ways (get_or excluded (frame_of address) true) bit
          (get_or_past excluded (frame_of address) true l))
    ]

true-open : (excluded : List Bool) (address : ℕ) → IsOpen excluded address
    → is_open excluded address ≡ true
true-open excluded address e =
    not_from_false _ (get_or_from_slice_get excluded (frame_of address) false true e)

open-false : (excluded : List Bool) (address : ℕ) → is_open excluded address ≡ false
    → IsNotOpen excluded address
open-false excluded address e =
    let bit = not-false (get_or excluded (frame_of address) true) e in
    elim (cases_lt (frame_of address) (length excluded)) [
      | inl l ↦ Excluded (slice_get-get_or excluded (frame_of address) true l ∙ ap Some bit)
      | inr l ↦ Past l
    ]

-- each of so many bytes is open
abbrev pub AreOpen : List Bool → ℕ → ℕ → Type 0
AreOpen excluded at count = (address : ℕ) → at ≤ address → address < at + count
    → IsOpen excluded address

-- some of so many bytes is not open
pub record HasClosed (excluded : List Bool) (at count : ℕ) : Type 0 where
  pub address : ℕ
  pub from : at ≤ address
  pub before : address < at + count
  pub closed : IsNotOpen excluded address

all_open : (excluded : List Bool) (count at : ℕ)
    → list_all (is_open excluded) (range_with_len at count) ≡ true → AreOpen excluded at count
all_open excluded zero at e address l h = absurd (omega arith)
all_open excluded (suc count) at e address l h =
    let parts = and_parts (is_open excluded at)
    (list_all (is_open excluded) (range_with_len (at + 1) count)) e in
    elim (cases_eq address at) [
      | inl same ↦ rw same (open-true excluded at parts.0)
      | inr other ↦ all_open excluded count (at + 1) parts.1 address (omega arith) (omega arith)
    ]

open_all : (excluded : List Bool) (count at : ℕ) → AreOpen excluded at count
    → list_all (is_open excluded) (range_with_len at count) ≡ true
open_all excluded zero at open' = refl
open_all excluded (suc count) at open' =
    and_from (is_open excluded at) (list_all (is_open excluded) (range_with_len (at + 1) count))
    (true-open excluded at (open' at (omega arith) (omega arith)))
    (open_all excluded count (at + 1) (λ address l h. open' address (omega arith) (omega arith)))

some_closed : (excluded : List Bool) (count at : ℕ)
    → list_all (is_open excluded) (range_with_len at count) ≡ false → HasClosed excluded at count
some_closed excluded zero at e = absurd (both_ways true e refl)
some_closed excluded (suc count) at e =
    elim (and_cases (is_open excluded at)
    (list_all (is_open excluded) (range_with_len (at + 1) count)) e) [
      | inl here ↦ record {
        address = at;
        from = omega arith;
        before = omega arith;
        closed = open-false excluded at here;
      }
      | inr later ↦
          let found = some_closed excluded count (at + 1) later in
          let from = found.from in
          let before = found.before in
          record {
            address = found.address;
            from = omega arith;
            before = omega arith;
            closed = found.closed;
          }
    ]

pub may_write-true : (excluded : List Bool) (at count : ℕ) → may_write excluded at count ≡ true
    → AreOpen excluded at count
unfolding may_write
may_write-true excluded at count e = all_open excluded count at e

pub true-may_write : (excluded : List Bool) (at count : ℕ) → AreOpen excluded at count
    → may_write excluded at count ≡ true
unfolding may_write
true-may_write excluded at count open' = open_all excluded count at open'

pub may_write-false : (excluded : List Bool) (at count : ℕ) → may_write excluded at count ≡ false
    → HasClosed excluded at count
unfolding may_write
may_write-false excluded at count e = some_closed excluded count at e

open_and_not : (excluded : List Bool) (address : ℕ) → IsOpen excluded address
    → IsNotOpen excluded address → ⊥
open_and_not excluded address e (Past l) = let within =
    slice_get_within excluded (frame_of address) false e in omega arith
open_and_not excluded address e (Excluded f) = let clash : Some true ≡ Some false = sym f ∙ e in cc

pub false-may_write : (excluded : List Bool) (at count : ℕ) → HasClosed excluded at count
    → may_write excluded at count ≡ false
false-may_write excluded at count c =
    false_from_ne_true (may_write excluded at count)
    (λ e. open_and_not excluded c.address
    (may_write-true excluded at count e c.address c.from c.before) c.closed)

-- bytes that reach past all frames may not be written
pub may_write-past : (excluded : List Bool) (at count : ℕ) → 1 ≤ count
    → first_byte (length excluded) < at + count → may_write excluded at count ≡ false
may_write-past excluded at count some past =
    let last : ℕ = at + count - 1 in
    false-may_write excluded at count (record {
      address = last;
      from = omega arith;
      before = omega arith;
      closed = Past (omega arith);
    })

-- bits by frames

clear-true : (bits : List Bool) → list_all (λ bit. not bit) bits ≡ true → (k : ℕ)
    → k < length bits → slice_get bits k ≡ Some false
clear-true [] e k h = absurd (omega arith)
clear-true (bit ∷ bits) e zero h =
    ap Some (not-true bit (and_parts (not bit) (list_all (λ b. not b) bits) e).0)
clear-true (bit ∷ bits) e (suc k) h =
    clear-true bits (and_parts (not bit) (list_all (λ b. not b) bits) e).1 k (omega arith)

clear-false : (bits : List Bool) → list_all (λ bit. not bit) bits ≡ false
    → (k : ℕ) × (slice_get bits k ≡ Some true)
clear-false [] e = absurd (both_ways true e refl)
clear-false (bit ∷ bits) e =
    elim (and_cases (not bit) (list_all (λ b. not b) bits) e) [
      | inl here ↦ (0, ap Some (not-false bit here))
      | inr later ↦ let found = clear-false bits later in (suc found.0, found.1)
    ]

-- the frames from `first` up to `stop` are those that the bytes touch
pub may_write-frames : (excluded : List Bool) (at count first stop : ℕ) → 1 ≤ count
    → at + count ≤ first_byte (length excluded) → first ≡ frame_of at
    → stop ≡ frame_of (at + (count - 1)) + 1
    → list_all (λ bit. not bit) (part excluded first (stop - first)) ≡ may_write excluded at count
may_write-frames excluded at count first stop some fits first_is stop_is =
    let bits : List Bool = part excluded first (stop - first) in
    let long : length bits ≡ stop - first =
    length-part excluded first (stop - first) (omega arith) in
    elim (cases_Bool (list_all (λ bit. not bit) bits)) [
      | inl none ↦ none ∙ sym (true-may_write excluded at count (λ address l h.
          sym (slice_get-part excluded first (stop - first) (frame_of address - first)
          (frame_of address) (omega arith) (omega arith))
          ∙ clear-true bits none (frame_of address - first) (omega arith)))
      | inr some_bit ↦
          let found = clear-false bits some_bit in
          let near : found.0 < length bits = slice_get_within bits found.0 true found.1 in
          let bit : slice_get excluded (first + found.0) ≡ Some true =
          sym (slice_get-part excluded first (stop - first) found.0 (first + found.0)
          (omega arith) refl) ∙ found.1 in
          some_bit ∙ sym
          (false-may_write excluded at count
          (closed_frame excluded at count (first + found.0) some (omega arith) (omega arith)
          bit))
    ]
  where
    closed_frame : (excluded : List Bool) (at count frame : ℕ) → 1 ≤ count → frame_of at ≤ frame
        → frame ≤ frame_of (at + (count - 1)) → slice_get excluded frame ≡ Some true
        → HasClosed excluded at count
    closed_frame excluded at count frame some low high bit =
        elim (cases_lt at (first_byte frame)) [
          | inl l ↦ record {
            address = first_byte frame;
            from = omega arith;
            before = omega arith;
            closed = Excluded (let e : frame_of (first_byte frame) ≡ frame = omega arith in
                ap (slice_get excluded) e ∙ bit);
          }
          | inr l ↦ record {
            address = at;
            from = omega arith;
            before = omega arith;
            closed = Excluded (let e : frame_of at ≡ frame = omega arith in
                ap (slice_get excluded) e
                ∙ bit);
          }
        ]

-- in memory: the bytes past all frames are past memory

pub shut-closed : (memory : Contents) (at count : ℕ)
    → length memory.bytes ≡ first_byte (length memory.excluded) → HasClosed memory.excluded at count
    → HasShutByte memory at count
shut-closed memory at count size c = record {
  address = c.address;
  from = c.from;
  before = c.before;
  shut = shut c.closed;
}
  where
    shut : IsNotOpen memory.excluded c.address → IsShut memory c.address
    shut (Past l) = inl (omega arith)
    shut (Excluded e) = inr e

pub closed-shut : (memory : Contents) (at count : ℕ)
    → length memory.bytes ≡ first_byte (length memory.excluded) → HasShutByte memory at count
    → HasClosed memory.excluded at count
closed-shut memory at count size s = record {
  address = s.address;
  from = s.from;
  before = s.before;
  closed = closed s.shut;
}
  where
    closed : IsShut memory s.address → IsNotOpen memory.excluded s.address
    closed (inl l) = Past (omega arith)
    closed (inr e) = Excluded e
