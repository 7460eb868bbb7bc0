-- The bytes of slots.
use Rattle.std.proofs.Common.{◌≡◌, ◌≢◌, ◌⊎◌, inl, inr, ℕ, ◌+◌, ◌-◌, ◌<◌, ◌≤◌, List, ◌++◌}
use Rattle.std.proofs.Common.{length, take, drop, refl, ◌∙◌, ap, arith, append_assoc, Some, None}
use Rattle.std.proofs.Common.{length-take, length-append}
use Rattle.std.proofs.lemmas.Bool.{lt-ltb, le-leb}
use Rattle.std.proofs.lemmas.List.{take_at, drop_at}
use Rattle.std.proofs.Math.Seq.{take-append-add}
use Rattle.byteorder.specs.Endian.{big_number, big_bytes}
use Rattle.byteorder.specs.Numbers.{big_number-reads_back}
use Rattle.job_store.specs.declared.sizes.TheConstants.{JOBS, SLOT_LEN, LONGEST_BLOB}
use Rattle.job_store.specs.Pieces.{part, written}
use Rattle.job_store.specs.Contents.{Contents, HasSize, IsTorn, InRange, disk_size}
use Rattle.job_store.specs.Slots.{slot_at, slot_bytes, blob_in, stored, entry, with_blob}
use Rattle.job_store.proofs.Standing.{part_same}
use Rattle.job_store.proofs.Outcomes.{torn-write}

-- a slot lies on the disk
pub slot-on_disk : (j s : ℕ) → j < JOBS → s < 2 → slot_at j s + SLOT_LEN ≤ disk_size
unfolding disk_size
slot-on_disk j s hj hs = omega arith

pub length-entry : (blob : List ℕ) → length (entry blob) ≡ length blob + 2
length-entry blob = omega (arith, length-append (big_bytes 2 (length blob)) blob)

-- two slots have no place in common
pub slots-apart : (j s i t n : ℕ) → s < 2 → t < 2 → (i ≢ j) ⊎ (t ≢ s) → n ≤ SLOT_LEN → (place : ℕ)
    → InRange (slot_at i t) SLOT_LEN place → ¬ InRange (slot_at j s) n place
slots-apart j s i t n hs ht (inl other) few place inside both =
    other (omega (arith, inside.0, inside.1, both.0, both.1))
slots-apart j s i t n hs ht (inr other) few place inside both =
    other (omega (arith, inside.0, inside.1, both.0, both.1))

-- a write to one slot, done or failed, leaves the bytes of the others
pub other-torn : (old new : Contents) (j s i t n : ℕ) → HasSize old → j < JOBS → s < 2 → i < JOBS
    → t < 2 → (i ≢ j) ⊎ (t ≢ s) → n ≤ SLOT_LEN → IsTorn (slot_at j s) n old new
    → slot_bytes i t new ≡ slot_bytes i t old
other-torn old new j s i t n size hj hs hi ht other few torn =
    let fits = slot-on_disk i t hi ht in
    part_same new.working old.working (slot_at i t) SLOT_LEN
    (omega (arith, torn.size.working, fits)) (omega (arith, size.working, fits))
    (λ place inside.
    (torn.outside place (slots-apart j s i t n hs ht other few place inside)).byte)

pub torn-blob : (j s : ℕ) (blob : List ℕ) (disk : Contents) → HasSize disk → j < JOBS → s < 2
    → length blob ≤ LONGEST_BLOB
    → IsTorn (slot_at j s) (length (entry blob)) disk (with_blob j s blob disk)
torn-blob j s blob disk size hj hs short =
    torn-write (slot_at j s) (entry blob) disk
    (omega (arith, slot-on_disk j s hj hs, length-entry blob)) size

-- ---- what is stored

-- a part of a list right from where a piece was written
part-written : (list : List ℕ) (at n more : ℕ) (piece : List ℕ) → at ≤ length list
    → n ≡ length piece + more
    → part (written list at piece) at n ≡ piece ++ take more (drop (at + length piece) list)
part-written list at n more piece inside is =
    let rest = drop (at + length piece) list in
    let prefix : length (take at list) ≡ at = omega (arith, length-take at list) in
    ap (λ (xs : List ℕ). take n (drop at xs)) (append_assoc (take at list) piece rest)
    ∙ ap (λ (xs : List ℕ). take n xs) (drop_at (take at list) (piece ++ rest) at prefix)
    ∙ ap (λ (k : ℕ). take k (piece ++ rest)) is
    ∙ take-append-add piece rest more

-- an entry, and whatever follows it
count-entry : (blob rest : List ℕ) → length blob ≤ LONGEST_BLOB
    → big_number 2 (entry blob ++ rest) ≡ length blob
count-entry blob rest short =
    ap (λ (xs : List ℕ). big_number 2 xs) (append_assoc (big_bytes 2 (length blob)) blob rest)
    ∙ big_number-reads_back 2 (length blob) (blob ++ rest) (omega arith)

part-entry : (blob rest : List ℕ) → part (entry blob ++ rest) 2 (length blob) ≡ blob
part-entry blob rest =
    ap (λ (xs : List ℕ). take (length blob) (drop 2 xs))
    (append_assoc (big_bytes 2 (length blob)) blob rest)
    ∙ ap (λ (xs : List ℕ). take (length blob) xs)
    (drop_at (big_bytes 2 (length blob)) (blob ++ rest) 2 refl)
    ∙ take_at blob rest (length blob) refl

blob_in-entry : (blob rest : List ℕ) → 0 < length blob → length blob ≤ LONGEST_BLOB
    → blob_in (entry blob ++ rest) ≡ Some blob
blob_in-entry blob rest some short =
    rw (
      count-entry blob rest short,
      lt-ltb 0 (length blob) some,
      le-leb (length blob) LONGEST_BLOB short,
    ) (ap Some (part-entry blob rest))

blob_in-none : (blob rest : List ℕ) → length blob ≡ 0 → blob_in (entry blob ++ rest) ≡ None
blob_in-none blob rest none =
    let count : big_number 2 (entry blob ++ rest) ≡ 0 = count-entry blob rest (omega arith) ∙ none in
    rw count refl

bytes-with_blob : (j s : ℕ) (blob : List ℕ) (disk : Contents) → HasSize disk → j < JOBS → s < 2
    → length blob ≤ LONGEST_BLOB → slot_bytes j s (with_blob j s blob disk)
    ≡ entry blob ++ take (LONGEST_BLOB - length blob)
    (drop (slot_at j s + length (entry blob)) disk.working)
bytes-with_blob j s blob disk size hj hs short =
    part-written disk.working (slot_at j s) SLOT_LEN (LONGEST_BLOB - length blob) (entry blob)
    (omega (arith, slot-on_disk j s hj hs, size.working)) (omega (arith, length-entry blob))

pub stored-blob : (disk : Contents) (j s : ℕ) (blob : List ℕ) → HasSize disk → j < JOBS → s < 2
    → 0 < length blob → length blob ≤ LONGEST_BLOB
    → stored j s (with_blob j s blob disk) ≡ Some blob
stored-blob disk j s blob size hj hs some short =
    ap blob_in (bytes-with_blob j s blob disk size hj hs short) ∙ blob_in-entry blob _ some short

pub stored-none : (disk : Contents) (j s : ℕ) (blob : List ℕ) → HasSize disk → j < JOBS → s < 2
    → length blob ≡ 0 → stored j s (with_blob j s blob disk) ≡ None
stored-none disk j s blob size hj hs none =
    ap blob_in (bytes-with_blob j s blob disk size hj hs (omega arith)) ∙ blob_in-none blob _ none
