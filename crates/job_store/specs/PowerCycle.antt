-- What a disk holds after the power went and came back.
use Rattle.std.specs.Prelude.{ℕ, ◌-◌, ◌%◌, nat_lt, List, length, take, map, replicate, count_by}
use Rattle.std.specs.Prelude.{Bool, false, slice_index, slice_index_or, if◌then◌else◌}
use Rattle.std.specs.List.{range_with_len}
use Rattle.job_store.specs.Contents.{Contents, disk_size}

-- how many dirty places lie below a place
abbrev pub dirty_below : List Bool → ℕ → ℕ
dirty_below dirty place = count_by (λ is_dirty. is_dirty) (take place dirty)

-- the byte of this number, counted from 0, of the bytes repeated from their start over and over;
-- where there are none, 0, which is what an index past the end gives
abbrev pub repeated : List ℕ → ℕ → ℕ
repeated fill number = slice_index fill (number % length fill)

-- what a dirty place holds that has so many dirty ones below it: one of the first `keep` what was
-- written, the others by address the bytes of `fill` from its start
abbrev pub dirty_byte : ℕ → List ℕ → ℕ → ℕ → ℕ
dirty_byte keep fill below byte = if nat_lt below keep then byte else repeated fill (below - keep)

-- what a place holds: its stable byte, where it is not dirty
abbrev pub byte_after : ℕ → List ℕ → Contents → ℕ → ℕ
byte_after keep fill disk place =
    if slice_index_or disk.dirty place false
    then dirty_byte keep fill (dirty_below disk.dirty place) (slice_index disk.working place)
    else slice_index disk.stable place

-- what all places hold
unfoldable pub disk_after : ℕ → List ℕ → Contents → List ℕ
disk_after keep fill disk = map (byte_after keep fill disk) (range_with_len 0 disk_size)

-- the disk then: all of it is stable
abbrev pub after_power_cycle : ℕ → List ℕ → Contents → Contents
after_power_cycle keep fill disk = record {
  working = disk_after keep fill disk;
  stable = disk_after keep fill disk;
  dirty = replicate disk_size false;
}
