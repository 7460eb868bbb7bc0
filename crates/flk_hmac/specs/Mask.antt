-- The mask of bytes under a key and a serial number.
use Rattle.std.specs.Prelude.{ℕ, ◌/◌, ◌%◌, List, ◌++◌, map, slice_index, bit_xor}
use Rattle.std.specs.List.{enumerate_from}
use Rattle.byteorder.specs.Endian.{big_bytes}
use Rattle.flk_hmac.specs.Hmac.{mac}

-- block i of the mask: the HMAC of the serial number in 8 bytes and of i in 4, the highest first
abbrev pub mask_block : List ℕ → ℕ → ℕ → List ℕ
mask_block key serial i = mac key (big_bytes 8 serial ++ big_bytes 4 i)

-- the byte of the mask at an index: the blocks have 20 bytes each
abbrev pub mask_byte : List ℕ → ℕ → ℕ → ℕ
mask_byte key serial index = slice_index (mask_block key serial (index / 20)) (index % 20)

-- the bytes, each exclusive-or the byte of the mask at its index
unfoldable pub masked_bytes : List ℕ → ℕ → List ℕ → List ℕ
masked_bytes key serial bytes =
    map (λ e. bit_xor e.1 (mask_byte key serial e.0)) (enumerate_from 0 bytes)
