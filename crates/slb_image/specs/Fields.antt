-- What stands at the offsets of a front, whatever the bytes are.
use Rattle.std.specs.Prelude.{ℕ, List, drop, slice_range, ◌==◌}
use Rattle.byteorder.specs.Endian.{little_from}
use Rattle.slb_image.specs.Image.{Image}

-- offset 0: where the code is entered, counted from the image's first byte
abbrev pub entry_field : List ℕ → ℕ
entry_field bytes = little_from 0 2 bytes

-- offset 2: how many bytes front and code have
abbrev pub length_field : List ℕ → ℕ
length_field bytes = little_from 2 2 bytes

-- offset 4: the mark
abbrev pub mark_field : List ℕ → List ℕ
mark_field bytes = slice_range bytes 4 8

-- offset 8: the version of the form
abbrev pub version_field : List ℕ → ℕ
version_field bytes = little_from 8 2 bytes

-- offset 10: the flags
abbrev pub flags_field : List ℕ → ℕ
flags_field bytes = little_from 10 2 bytes

-- offset 12: how many turns the code may take
abbrev pub budget_field : List ℕ → ℕ
budget_field bytes = little_from 12 4 bytes

-- offset 16: the reserved bytes
abbrev pub reserved_field : List ℕ → List ℕ
reserved_field bytes = slice_range bytes 16 32

-- what bytes say, if they are an image: the code begins at offset 32
unfoldable pub image_of : List ℕ → Image
image_of bytes = record {
  entry = entry_field bytes;
  budget = budget_field bytes;
  job = flags_field bytes == 1;
  code = drop 32 bytes;
}
