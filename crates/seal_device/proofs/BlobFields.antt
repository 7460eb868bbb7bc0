-- What stands at the offsets of the blob of a record.
use Rattle.std.proofs.Common.{◌≡◌, ℕ, ◌+◌, ◌<◌, ◌^◌, List, [], ◌++◌, length, take, drop}
use Rattle.std.proofs.Common.{Option, Some, None, refl, sym, ap, ◌∙◌, arith, append_assoc, length-append}
use Rattle.std.specs.Prelude.{slice_range}
use Rattle.std.proofs.lemmas.List.{take_at, drop_at, drop-drop, get_or-drop}
use Rattle.byteorder.specs.Endian.{big_from, big_bytes}
use Rattle.byteorder.specs.Numbers.{big_number-reads_back}
use Rattle.flk_hmac.specs.Mask.{masked_bytes}
use Rattle.flk_hmac.proofs.Masks.{length-masked_bytes}
use Rattle.flk_hmac.proofs.MacLengths.{length-mac}
use Rattle.seal_device.specs.Keys.{Keys}
use Rattle.seal_device.specs.Sealed.{Bearing, Sealed}
use Rattle.seal_device.specs.Blobs.{head, tagged, tag, blob, mark, mark_field, serial_field, id_field}
use Rattle.seal_device.specs.Blobs.{value_field, chain_field, length_field, masked_field}

-- a record by its parts
abbrev pub the_record : ℕ → List ℕ → Option Bearing → List ℕ → Sealed (List ℕ)
the_record serial chain counter bytes =
    record { serial = serial; chain = chain; counter = counter; bytes = bytes }

module _ (keys : Keys) (serial : ℕ) (chain : List ℕ) (bytes : List ℕ) where
  -- the blob of a record that bears this counter
  abbrev pub the_blob : Option Bearing → List ℕ
  the_blob counter = blob keys (the_record serial chain counter bytes)

  -- the bytes as they are masked
  abbrev pub masked : List ℕ
  masked = masked_bytes keys.masking serial bytes

  -- the tag of the record
  abbrev pub the_tag : Option Bearing → List ℕ
  the_tag counter = tag keys (tagged keys (the_record serial chain counter bytes))

  pub length-head : (counter : Option Bearing) → length chain ≡ 20 →
      length (head (the_record serial chain counter bytes)) ≡ 39
  unfolding head
  length-head None long =
      omega (arith, length-append chain (big_bytes 2 (length bytes)))
  length-head (Some b) long =
      omega (arith, length-append chain (big_bytes 2 (length bytes)))

  pub length-tagged : (counter : Option Bearing) → length chain ≡ 20 →
      length (tagged keys (the_record serial chain counter bytes)) ≡ 39 + length bytes
  length-tagged counter long =
      omega (
        arith,
        length-append (head (the_record serial chain counter bytes)) masked,
        length-head counter long,
        length-masked_bytes keys.masking serial bytes,
      )

  pub length-blob : (counter : Option Bearing) → length chain ≡ 20 →
      length (the_blob counter) ≡ 59 + length bytes
  length-blob counter long =
      omega (
        arith,
        length-append (tagged keys (the_record serial chain counter bytes)) (the_tag counter),
        length-tagged counter long,
        length-mac keys.sealing (tagged keys (the_record serial chain counter bytes)),
      )

  pub mark-blob : (counter : Option Bearing) → mark_field (the_blob counter) ≡ mark
  unfolding head
  mark-blob counter = refl

  pub serial-blob : (counter : Option Bearing) → serial < 256 ^ 8 →
      serial_field (the_blob counter) ≡ serial
  unfolding head
  serial-blob counter fits = big_number-reads_back 8 serial [] fits

  pub no_id-blob : id_field (the_blob None) ≡ 255
  unfolding head
  no_id-blob = refl

  pub id-blob : (b : Bearing) → b.id < 256 ^ 1 → id_field (the_blob (Some b)) ≡ b.id
  unfolding head
  id-blob b fits = omega (arith, big_number-reads_back 1 b.id [] fits)

  pub value-blob : (b : Bearing) → b.value < 256 ^ 4 → value_field (the_blob (Some b)) ≡ b.value
  unfolding head
  value-blob b fits = big_number-reads_back 4 b.value [] fits

  -- what stands behind the counter
  abbrev behind_chain : Option Bearing → List ℕ
  behind_chain counter = big_bytes 2 (length bytes) ++ (masked ++ the_tag counter)

  regrouped : (a b c d : List ℕ) → ((a ++ (b ++ [])) ++ c) ++ d ≡ a ++ ((b ++ []) ++ (c ++ d))
  regrouped a b c d = simp append_assoc

  from_17 : (counter : Option Bearing) → drop 17 (the_blob counter) ≡ chain ++ behind_chain counter
  unfolding head
  from_17 None = regrouped chain (big_bytes 2 (length bytes)) masked (the_tag None)
  from_17 (Some b) = regrouped chain (big_bytes 2 (length bytes)) masked (the_tag (Some b))

  pub chain-blob : (counter : Option Bearing) → length chain ≡ 20 →
      chain_field (the_blob counter) ≡ chain
  chain-blob counter long =
      ap (take 20) (from_17 counter) ∙ take_at chain (behind_chain counter) 20 long

  from_37 : (counter : Option Bearing) → length chain ≡ 20 →
      drop 37 (the_blob counter) ≡ behind_chain counter
  from_37 counter long =
      sym (drop-drop 20 17 (the_blob counter))
      ∙ ap (drop 20) (from_17 counter)
      ∙ drop_at chain (behind_chain counter) 20 long

  -- a number of two bytes is that of what stands from it on
  length_from : (p : List ℕ) → length_field p ≡ big_from 0 2 (drop 37 p)
  length_from p = omega (arith, get_or-drop 37 p 0 0, get_or-drop 37 p 1 0)

  pub length_field-blob : (counter : Option Bearing) → length chain ≡ 20 →
      length bytes < 256 ^ 2 → length_field (the_blob counter) ≡ length bytes
  length_field-blob counter long fits =
      length_from (the_blob counter)
      ∙ ap (big_from 0 2) (from_37 counter long)
      ∙ big_number-reads_back 2 (length bytes) (masked ++ the_tag counter) fits

  pub masked-blob : (counter : Option Bearing) → length chain ≡ 20 →
      length bytes < 256 ^ 2 → masked_field (the_blob counter) ≡ masked
  masked-blob counter long fits =
      ap (λ (n : ℕ). slice_range (the_blob counter) 39 (39 + n))
      (length_field-blob counter long fits)
      ∙ ap (λ (n : ℕ). take n (drop 39 (the_blob counter))) (omega arith)
      ∙ ap (take (length bytes))
      (sym (drop-drop 2 37 (the_blob counter)) ∙ ap (drop 2) (from_37 counter long))
      ∙ take_at masked (the_tag counter) (length bytes)
      (length-masked_bytes keys.masking serial bytes)
