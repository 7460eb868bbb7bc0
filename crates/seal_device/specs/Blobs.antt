-- The form of a blob: a sealed record as bytes that only who has the keys can make. Its numbers
-- have their highest byte first.
use Rattle.std.specs.Prelude.{ℕ, ◌+◌, Bool, ◌&&◌, ◌||◌, ◌==◌, nat_le, List, [], ◌∷◌, ◌++◌, length}
use Rattle.std.specs.Prelude.{take, drop, slice_index, slice_range, codes, bytes_eq}
use Rattle.std.specs.Prelude.{Option, Some, None, if◌then◌else◌}
use Rattle.std.specs.List.{concat}
use Rattle.byteorder.specs.Endian.{big_bytes, big_from}
use Rattle.flk_hmac.specs.Hmac.{mac}
use Rattle.flk_hmac.specs.Mask.{masked_bytes}
use Rattle.seal_device.specs.Keys.{Keys}
use Rattle.seal_device.specs.Sealed.{Bearing, Sealed, longest_sealed, no_counter}

-- ---- the blob of a record

-- the first bytes of each blob
abbrev pub mark : List ℕ
mark = codes "FLK1"

-- the number of the counter that a record bears, and the value: 255 and 0 where it bears none
abbrev pub counter_bytes : Option Bearing → List ℕ
counter_bytes None = big_bytes 1 no_counter ++ big_bytes 4 0
counter_bytes (Some b) = big_bytes 1 b.id ++ big_bytes 4 b.value

-- the head, 39 bytes: mark, serial, counter, register 17's value, and how many bytes the record has
unfoldable pub head : Sealed (List ℕ) → List ℕ
head r =
    concat (mark
    ∷ big_bytes 8 r.serial
    ∷ counter_bytes r.counter
    ∷ r.chain
    ∷ big_bytes 2 (length r.bytes)
    ∷ [])

-- all before the tag: the head, and the record's bytes, masked
abbrev pub tagged : Keys → Sealed (List ℕ) → List ℕ
tagged keys r = head r ++ masked_bytes keys.masking r.serial r.bytes

-- the tag of bytes: their HMAC
abbrev pub tag : Keys → List ℕ → List ℕ
tag keys bytes = mac keys.sealing bytes

-- the blob of a record
abbrev pub blob : Keys → Sealed (List ℕ) → List ℕ
blob keys r = tagged keys r ++ tag keys (tagged keys r)

-- how many bytes the blob of a record of n bytes has
abbrev pub blob_size : ℕ → ℕ
blob_size n = 59 + n

-- ---- what stands at the offsets of a blob, whatever the bytes are

-- offset 0: the mark
abbrev pub mark_field : List ℕ → List ℕ
mark_field p = slice_range p 0 4

-- offset 4: the serial
abbrev pub serial_field : List ℕ → ℕ
serial_field p = big_from 4 8 p

-- offset 12: the number of the counter
abbrev pub id_field : List ℕ → ℕ
id_field p = slice_index p 12

-- offset 13: the counter's value
abbrev pub value_field : List ℕ → ℕ
value_field p = big_from 13 4 p

-- offset 17: register 17's value
abbrev pub chain_field : List ℕ → List ℕ
chain_field p = slice_range p 17 37

-- offset 37: how many bytes the record has
abbrev pub length_field : List ℕ → ℕ
length_field p = big_from 37 2 p

-- offset 39: the record's bytes, masked
abbrev pub masked_field : List ℕ → List ℕ
masked_field p = slice_range p 39 (39 + length_field p)

-- ---- what bytes say

-- the bytes have the form of a blob, whatever its tag is
abbrev pub is_form : List ℕ → Bool
is_form p =
    nat_le (blob_size 0) (length p)
    && bytes_eq (mark_field p) mark
    && nat_le (length_field p) longest_sealed
    && length p == blob_size (length_field p)

-- the bytes have the form of a blob, and after the record the tag of all before it
unfoldable pub tag_ok : Keys → List ℕ → Bool
tag_ok keys p =
    is_form p
    && bytes_eq (drop (39 + length_field p) p) (tag keys (take (39 + length_field p) p))

-- the counter that a blob bears, if it bears one
abbrev pub bearing_of : List ℕ → Option Bearing
bearing_of p =
    if id_field p == no_counter
    then None
    else Some (record { id = id_field p; value = value_field p })

-- what bytes say, if they are a blob
unfoldable pub sealed_of : Keys → List ℕ → Sealed (List ℕ)
sealed_of keys p = record {
  serial = serial_field p;
  chain = chain_field p;
  counter = bearing_of p;
  bytes = masked_bytes keys.masking (serial_field p) (masked_field p);
}

-- the record that bytes are read as: none where they have not the form or the tag of a blob
abbrev pub parsed : Keys → List ℕ → Option (Sealed (List ℕ))
parsed keys p = if tag_ok keys p then Some (sealed_of keys p) else None

-- the number of the counter that bytes bear, if they are a blob: none where they end before it, or
-- it is 255
abbrev pub blob_counter : List ℕ → Option ℕ
blob_counter p =
    if nat_le (length p) 12 || (id_field p == no_counter) then None else Some (id_field p)
