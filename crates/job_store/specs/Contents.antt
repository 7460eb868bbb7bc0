-- What a disk holds, and what its calls leave. A place is a byte of it, by its address.
use Rattle.std.specs.Prelude.{◌≡◌, ◌⊎◌, ℕ, ◌+◌, ◌<◌, ◌≤◌, List, length, replicate, Bool, true, false}
use Rattle.std.specs.Prelude.{slice_get, Some}
use Rattle.job_store.specs.declared.sizes.TheConstants.{DISK_LEN}
use Rattle.job_store.specs.Pieces.{written}

-- how many places a disk has
unfoldable pub disk_size : ℕ
disk_size = DISK_LEN

-- of each place the byte that a read gives, the byte that the last sync or power cycle left there,
-- and whether the place is dirty: written since then, so that a power cycle may change its byte
pub record Contents : Type 0 where
  pub working : List ℕ
  pub stable : List ℕ
  pub dirty : List Bool

-- there is an entry for each place
pub record HasSize (disk : Contents) : Type 0 where
  pub working : length disk.working ≡ disk_size
  pub stable : length disk.stable ≡ disk_size
  pub dirty : length disk.dirty ≡ disk_size

-- a disk of zeros, nothing dirty
abbrev pub blank : Contents
blank = record {
  working = replicate disk_size 0;
  stable = replicate disk_size 0;
  dirty = replicate disk_size false;
}

-- the place is one of so many from an address on
abbrev pub InRange : ℕ → ℕ → ℕ → Type 0
InRange at count place = (at ≤ place) × (place < at + count)

-- the place is dirty
abbrev pub IsDirty : Contents → ℕ → Type 0
IsDirty disk place = slice_get disk.dirty place ≡ Some true

-- the place is not dirty
abbrev pub IsClean : Contents → ℕ → Type 0
IsClean disk place = slice_get disk.dirty place ≡ Some false

-- a place that is not dirty has its stable byte
abbrev pub IsSound : Contents → Type 0
IsSound disk = (place : ℕ) → IsClean disk place
    → slice_get disk.working place ≡ slice_get disk.stable place

-- the place has the byte that it had, and is dirty where it was dirty
pub record SameAt (old new : Contents) (place : ℕ) : Type 0 where
  pub byte : slice_get new.working place ≡ slice_get old.working place
  pub dirty : slice_get new.dirty place ≡ slice_get old.dirty place

-- the disk once bytes were written from an address on: they stand there, and their places are dirty
abbrev pub after_write : ℕ → List ℕ → Contents → Contents
after_write at bytes disk = record disk {
  working = written disk.working at bytes;
  dirty = written disk.dirty at (replicate (length bytes) true);
}

-- what a write of so many bytes that failed may leave: outside of its range all is as it was. In
-- the range each place is dirty, whatever byte it has, or is as it was: so one whose byte changed
-- is dirty
pub record IsTorn (at count : ℕ) (old new : Contents) : Type 0 where
  pub size : HasSize new
  pub stable : new.stable ≡ old.stable
  pub outside : (place : ℕ) → ¬ InRange at count place → SameAt old new place
  pub inside : (place : ℕ) → InRange at count place → IsDirty new place ⊎ SameAt old new place

-- the disk once it was synced: the working bytes are stable, and nothing is dirty
abbrev pub after_sync : Contents → Contents
after_sync disk = record {
  working = disk.working;
  stable = disk.working;
  dirty = replicate disk_size false;
}
