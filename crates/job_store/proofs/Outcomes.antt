-- What every outcome of a call keeps: the size of a disk, and that a place which is not dirty has
-- its stable byte.
use Rattle.std.proofs.Common.{◌≡◌, ◌⊎◌, inl, inr, ℕ, ◌+◌, ◌-◌, ◌<◌, ◌≤◌, List, length, replicate}
use Rattle.std.proofs.Common.{refl}
use Rattle.std.proofs.Common.{sym, ◌∙◌, ap, subst, arith, Some, slice_get, true, false, get_or}
use Rattle.std.specs.Prelude.{Result, Ok, Err, OnOk, OnErr}
use Rattle.std.proofs.lemmas.Bool.{cases_lt}
use Rattle.std.proofs.lemmas.List.{length-replicate}
use Rattle.std.proofs.lemmas.List.FromFn.{length-map-range_with_len, get_or-map-range_with_len}
use Rattle.std.proofs.lemmas.Option.{slice_get-get_or, get_or_from_slice_get}
use Rattle.job_store.specs.declared.sizes.TheConstants.{DISK_LEN}
use Rattle.job_store.specs.Contents.{Contents, HasSize, IsSound, IsTorn, InRange, IsDirty, IsClean}
use Rattle.job_store.specs.Contents.{SameAt, disk_size, blank, after_write, after_sync}
use Rattle.job_store.specs.PowerCycle.{byte_after, disk_after, after_power_cycle}
use Rattle.job_store.specs.Calls.{Read, Write, Sync, Outcome, Done, Failed, Cycled, Follows}
use Rattle.job_store.proofs.Lists.{writes-written, slice_get-replicate, same_at_each}

-- how many places there are
pub disk_size_is : disk_size ≡ DISK_LEN
unfolding disk_size
disk_size_is = refl

-- ---- sizes

pub size-write : (at : ℕ) (bytes : List ℕ) (disk : Contents) → at + length bytes ≤ disk_size
    → HasSize disk → HasSize (after_write at bytes disk)
size-write at bytes disk fits h =
    let marks = length-replicate (length bytes) true in
    record {
      working = (writes-written disk.working at bytes (omega (arith, h.working))).long ∙ h.working;
      stable = h.stable;
      dirty = (writes-written disk.dirty at (replicate (length bytes) true)
          (omega (arith, h.dirty, marks))).long ∙ h.dirty;
    }

pub size-sync : (disk : Contents) → HasSize disk → HasSize (after_sync disk)
size-sync disk h = record {
  working = h.working;
  stable = h.working;
  dirty = length-replicate disk_size false;
}

length-disk_after : (keep : ℕ) (fill : List ℕ) (disk : Contents)
    → length (disk_after keep fill disk) ≡ disk_size
unfolding disk_after
length-disk_after keep fill disk =
    length-map-range_with_len (byte_after keep fill disk) 0 disk_size

pub size-power_cycle : (keep : ℕ) (fill : List ℕ) (disk : Contents)
    → HasSize (after_power_cycle keep fill disk)
size-power_cycle keep fill disk = record {
  working = length-disk_after keep fill disk;
  stable = length-disk_after keep fill disk;
  dirty = length-replicate disk_size false;
}

pub size-blank : HasSize blank
size-blank = record {
  working = length-replicate disk_size 0;
  stable = length-replicate disk_size 0;
  dirty = length-replicate disk_size false;
}

pub size-follows : (outcome : Outcome) (old new : Contents) → HasSize old
    → Follows outcome old new → HasSize new
size-follows (Done (Read at count)) old new h f = subst HasSize (sym f.1) h
size-follows (Done (Write at bytes)) old new h f =
    subst HasSize (sym f.1) (size-write at bytes old (omega (arith, f.0, disk_size_is)) h)
size-follows (Done Sync) old new h f = subst HasSize (sym f.1) (size-sync old h)
size-follows (Failed (Read at count)) old new h f = subst HasSize (sym f.1) h
size-follows (Failed (Write at bytes)) old new h f = f.1.size
size-follows (Failed Sync) old new h f = subst HasSize (sym f.1) h
size-follows (Cycled keep fill) old new h f = subst HasSize (sym f) (size-power_cycle keep fill old)

-- ---- single places

-- a place that is as it was, and is not dirty, has its stable byte, as before
sound_as_before : (old new : Contents) (place : ℕ) → IsSound old → new.stable ≡ old.stable
    → SameAt old new place → IsClean new place
    → slice_get new.working place ≡ slice_get new.stable place
sound_as_before old new place s stable same clean =
    same.byte ∙ s place (sym same.dirty ∙ clean) ∙ ap (λ (xs : List ℕ). slice_get xs place) (sym stable)

-- no place is dirty and not dirty
dirty_and_clean : (disk : Contents) (place : ℕ) → IsDirty disk place → IsClean disk place → ⊥
dirty_and_clean disk place dirty clean = let clash : Some true ≡ Some false = sym dirty ∙ clean in cc

-- a place is in the range or not
pub range_cases : (at count place : ℕ) → InRange at count place ⊎ (¬ InRange at count place)
range_cases at count place = elim (cases_lt place at) [
  | inl below ↦ inr (λ h. absurd (omega (arith, h.0)))
  | inr from ↦ elim (cases_lt place (at + count)) [
    | inl inside ↦ inl (from, inside)
    | inr past ↦ inr (λ h. absurd (omega (arith, h.1)))
  ]
]

-- a write leaves what is outside of its range
pub write-outside : (at : ℕ) (bytes : List ℕ) (disk : Contents) (place : ℕ)
    → at + length bytes ≤ disk_size → HasSize disk → ¬ InRange at (length bytes) place
    → SameAt disk (after_write at bytes disk) place
write-outside at bytes disk place fits h out =
    let marks = length-replicate (length bytes) true in
    let byte = writes-written disk.working at bytes (omega (arith, h.working)) in
    let mark = writes-written disk.dirty at (replicate (length bytes) true)
    (omega (arith, h.dirty, marks)) in
    elim (cases_lt place at) [
      | inl below ↦ record { byte = byte.below place below; dirty = mark.below place below }
      | inr from ↦ elim (cases_lt place (at + length bytes)) [
        | inl inside ↦ absurd (out (from, inside))
        | inr past ↦ record {
          byte = byte.above place past;
          dirty = mark.above place (omega (arith, marks));
        }
      ]
    ]

-- in its range all is dirty
pub write-inside : (at : ℕ) (bytes : List ℕ) (disk : Contents) (place : ℕ)
    → at + length bytes ≤ disk_size → HasSize disk → InRange at (length bytes) place
    → IsDirty (after_write at bytes disk) place
write-inside at bytes disk place fits h inside =
    let marks = length-replicate (length bytes) true in
    let mark = writes-written disk.dirty at (replicate (length bytes) true)
    (omega (arith, h.dirty, marks)) in
    let k : ℕ = place - at in
    let here : at + k ≡ place = omega (arith, inside.0) in
    let few : k < length bytes = omega (arith, inside.0, inside.1) in
    mark.inside k place (omega (arith, marks)) here
    ∙ slice_get-replicate (length bytes) true k few

-- what a place holds after a power cycle
pub byte-power_cycle : (keep : ℕ) (fill : List ℕ) (disk : Contents) (place : ℕ)
    → place < disk_size
    → slice_get (disk_after keep fill disk) place ≡ Some (byte_after keep fill disk place)
unfolding disk_after
byte-power_cycle keep fill disk place inside =
    let long = length-map-range_with_len (byte_after keep fill disk) 0 disk_size in
    slice_get-get_or (disk_after keep fill disk) place 0 (omega arith)
    ∙ ap Some (get_or-map-range_with_len (byte_after keep fill disk) 0 disk_size place place 0
    inside (omega arith))

-- where it was not dirty, its stable byte
pub clean-power_cycle : (keep : ℕ) (fill : List ℕ) (disk : Contents) (place : ℕ)
    → HasSize disk → place < disk_size → IsClean disk place
    → slice_get (disk_after keep fill disk) place ≡ slice_get disk.stable place
clean-power_cycle keep fill disk place h inside clean =
    let mark : get_or disk.dirty place false ≡ false =
    get_or_from_slice_get disk.dirty place false false clean in
    let stable : byte_after keep fill disk place ≡ get_or disk.stable place 0 = rw mark refl in
    byte-power_cycle keep fill disk place inside
    ∙ ap Some stable
    ∙ sym (slice_get-get_or disk.stable place 0 (omega (arith, h.stable)))

pub clean-in_size : (disk : Contents) (place : ℕ) → place < disk_size
    → IsClean (after_sync disk) place
clean-in_size disk place inside = slice_get-replicate disk_size false place inside

-- ---- stable bytes

sound-torn : (at count : ℕ) (old new : Contents) → IsSound old → IsTorn at count old new
    → IsSound new
sound-torn at count old new s torn place clean = elim (range_cases at count place) [
  | inl inside ↦ elim (torn.inside place inside) [
    | inl dirty ↦ absurd (dirty_and_clean new place dirty clean)
    | inr same ↦ sound_as_before old new place s torn.stable same clean
  ]
  | inr out ↦ sound_as_before old new place s torn.stable (torn.outside place out) clean
]

-- a write that is done is one that may fail so
pub torn-write : (at : ℕ) (bytes : List ℕ) (disk : Contents) → at + length bytes ≤ disk_size
    → HasSize disk → IsTorn at (length bytes) disk (after_write at bytes disk)
torn-write at bytes disk fits h = record {
  size = size-write at bytes disk fits h;
  stable = refl;
  outside = λ place out. write-outside at bytes disk place fits h out;
  inside = λ place inside. inl (write-inside at bytes disk place fits h inside);
}

pub sound-follows : (outcome : Outcome) (old new : Contents) → HasSize old → IsSound old
    → Follows outcome old new → IsSound new
sound-follows (Done (Read at count)) old new h s f = subst IsSound (sym f.1) s
sound-follows (Done (Write at bytes)) old new h s f =
    subst IsSound (sym f.1)
    (sound-torn at (length bytes) old (after_write at bytes old) s (torn-write at bytes old (omega (arith, f.0, disk_size_is)) h))
sound-follows (Done Sync) old new h s f = subst IsSound (sym f.1) (λ place clean. refl)
sound-follows (Failed (Read at count)) old new h s f = subst IsSound (sym f.1) s
sound-follows (Failed (Write at bytes)) old new h s f = sound-torn at (length bytes) old new s f.1
sound-follows (Failed Sync) old new h s f = subst IsSound (sym f.1) s
sound-follows (Cycled keep fill) old new h s f = subst IsSound (sym f) (λ place clean. refl)

pub sound-blank : IsSound blank
sound-blank place clean = refl

-- ---- a power cycle right after a sync

pub cycle-sync : (disk : Contents) (keep : ℕ) (fill : List ℕ) → HasSize disk
    → after_power_cycle keep fill (after_sync disk) ≡ after_sync disk
cycle-sync disk keep fill h =
    let synced = size-sync disk h in
    let long = length-disk_after keep fill (after_sync disk) in
    let bytes : disk_after keep fill (after_sync disk) ≡ disk.working =
    same_at_each (disk_after keep fill (after_sync disk)) disk.working (omega (arith, h.working))
    (λ place inside. let here : place < disk_size = omega arith in
    clean-power_cycle keep fill (after_sync disk) place synced here (clean-in_size disk place here)) in
    cc

-- whatever came of a write
pub torn_either : {T E : Type 0} (result : Result T E) (at : ℕ) (bytes : List ℕ)
    (old new : Contents) → at + length bytes ≤ DISK_LEN → HasSize old
    → OnOk result (new ≡ after_write at bytes old)
    → OnErr result (IsTorn at (length bytes) old new) → IsTorn at (length bytes) old new
torn_either (Ok x) at bytes old new fits h done torn =
    subst (IsTorn at (length bytes) old) (sym done)
    (torn-write at bytes old (omega (arith, disk_size_is)) h)
torn_either (Err e) at bytes old new fits h done torn = torn
