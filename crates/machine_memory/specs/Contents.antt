-- What memory holds: its bytes, and the mark and the exclusion bit of each frame.
use Rattle.std.specs.Prelude.{◌≡◌, ℕ, ◌*◌, ◌/◌, List, length, replicate, map, Bool, true, slice_get}
use Rattle.std.specs.Prelude.{Some}
use Rattle.region_pool.specs.declared.mark.Mark.{Mark}
use Rattle.region_pool.specs.declared.mark.Mark.TheVariants.{Free}
use Rattle.region_pool.specs.Marks.{IsPool, is_free}
use Rattle.machine_memory.specs.declared.sizes.TheConstants.{FRAME_LEN, FRAMES}

-- how many frames memory has
unfoldable pub frame_count : ℕ
frame_count = FRAMES

-- the address of a frame's first byte
abbrev pub first_byte : ℕ → ℕ
first_byte frame = FRAME_LEN * frame

-- the frame in which an address lies
abbrev pub frame_of : ℕ → ℕ
frame_of address = address / FRAME_LEN

-- memory: its bytes, the mark of each frame, and whether devices are kept out of it
pub record Contents : Type 0 where
  pub bytes : List ℕ
  pub marks : List Mark
  pub excluded : List Bool

-- the frame is free
abbrev pub IsFree : Contents → ℕ → Type 0
IsFree memory frame = slice_get memory.marks frame ≡ Some Free

-- devices are kept out of the frame
abbrev pub IsExcluded : Contents → ℕ → Type 0
IsExcluded memory frame = slice_get memory.excluded frame ≡ Some true

-- every byte of the frame is zero
abbrev pub IsZero : Contents → ℕ → Type 0
IsZero memory frame = (address : ℕ) → frame_of address ≡ frame
    → slice_get memory.bytes address ≡ Some 0

-- what is true of every memory
pub record IsMemory (memory : Contents) : Type 0 where
  pub pool : IsPool memory.marks
  pub frames : length memory.marks ≡ frame_count
  pub bits : length memory.excluded ≡ frame_count
  pub size : length memory.bytes ≡ first_byte frame_count
  pub free_is_excluded : (frame : ℕ) → IsFree memory frame → IsExcluded memory frame
  pub free_is_zero : (frame : ℕ) → IsFree memory frame → IsZero memory frame

-- as many zeros as memory has bytes
abbrev pub zero_bytes : List ℕ
zero_bytes = replicate (first_byte frame_count) 0

-- memory as it is made: all frames are free
abbrev pub blank : Contents
blank = record {
  bytes = zero_bytes;
  marks = replicate frame_count Free;
  excluded = replicate frame_count true;
}

-- memory after a power cycle: all bytes are zero, and of the frames only the free ones stay
-- excluded
abbrev pub after_power_cycle : Contents → Contents
after_power_cycle memory = record memory { bytes = zero_bytes; excluded = map is_free memory.marks }
