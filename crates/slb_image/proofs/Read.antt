-- Bytes that pass the checks are the image of what their fields say.
use Rattle.std.proofs.Common.{◌≡◌, ℕ, zero, suc, ◌+◌, ◌-◌, ◌<◌, ◌≤◌, eqb, List, [], ◌∷◌, ◌++◌}
use Rattle.std.proofs.Common.{length, take, drop, get_or, replicate, None, length-take, length-drop}
use Rattle.std.proofs.Common.{append_assoc, refl, ap, ◌∙◌, sym, inl, inr, arith}
use Rattle.std.specs.Prelude.{slice_range, codes}
use Rattle.std.specs.List.{concat}
use Rattle.std.proofs.lemmas.List.{append-nil, take-append-drop, drop-drop, get_or-take}
use Rattle.std.proofs.lemmas.List.{get_or-drop, get_or_past, get_or_default}
use Rattle.std.proofs.lemmas.Nat.{le_bytes_2, le_bytes_4}
use Rattle.std.proofs.lemmas.Bool.{cases_lt}
use Rattle.byteorder.specs.Endian.{little_bytes, little_from}
use Rattle.slb_image.specs.Image.{flags, front, IsImageOf}
use Rattle.slb_image.specs.Fields.{entry_field, length_field, flags_field, budget_field, image_of}
use Rattle.slb_image.specs.Faults.{image_fault}
use Rattle.slb_image.proofs.Checked.{Passes, passes}

-- the bytes from one offset on are those up to another and those from there on
part : (bytes : List ℕ) (from to : ℕ) → from ≤ to
    → slice_range bytes from to ++ drop to bytes ≡ drop from bytes
part bytes from to h =
    let at : from + (to - from) ≡ to = omega arith in
    ap (λ (rest : List ℕ). slice_range bytes from to ++ rest) (ap (λ (n : ℕ). drop n bytes) (sym at)
    ∙ sym (drop-drop (to - from) from bytes))
    ∙ take-append-drop (to - from) (drop from bytes)

-- pieces that are the fields, and the code after them, are the bytes
fields_and_code : (bytes entry whole mark version flag budget reserved : List ℕ)
    → entry ≡ slice_range bytes 0 2 → whole ≡ slice_range bytes 2 4 → mark ≡ slice_range bytes 4 8
    → version ≡ slice_range bytes 8 10
    → flag ≡ slice_range bytes 10 12 → budget ≡ slice_range bytes 12 16
    → reserved ≡ slice_range bytes 16 32
    → concat (entry ∷ whole ∷ mark ∷ version ∷ flag ∷ budget ∷ reserved ∷ []) ++ drop 32 bytes
    ≡ bytes
fields_and_code bytes entry whole mark version flag budget reserved e w m v f b r =
    let at_entry = part bytes 0 2 (omega arith) in
    let at_whole = part bytes 2 4 (omega arith) in
    let at_mark = part bytes 4 8 (omega arith) in
    let at_version = part bytes 8 10 (omega arith) in
    let at_flag = part bytes 10 12 (omega arith) in
    let at_budget = part bytes 12 16 (omega arith) in
    let at_reserved = part bytes 16 32 (omega arith) in
    simp (e, w, m, v, f, b, r, append_assoc, append-nil)
    (rw (at_reserved, at_budget, at_flag, at_version, at_mark, at_whole, at_entry) refl)

-- an item of a part
part_at : (bytes : List ℕ) (offset n i index : ℕ) → i < n → index ≡ offset + i
    → get_or (take n (drop offset bytes)) i 0 ≡ get_or bytes index 0
part_at bytes offset n i index h e = rw (get_or-take, get_or-drop, e) refl

-- each item of a part is a byte
part_small : (bytes : List ℕ) (offset n : ℕ) → ((i : ℕ) → get_or bytes i 0 < 256) → (i : ℕ)
    → get_or (take n (drop offset bytes)) i 0 < 256
part_small bytes offset n small i = elim (cases_lt i n) [
  | inl below ↦ rw (part_at bytes offset n i (offset + i) below refl) (small (offset + i))
  | inr past ↦
      let none = get_or_past (take n (drop offset bytes)) i 0
      (omega (arith, length-take n (drop offset bytes))) in
      omega (arith, none)
]

-- a part that is there is as long as was asked
length-part : (bytes : List ℕ) (offset n : ℕ) → offset + n ≤ length bytes
    → length (take n (drop offset bytes)) ≡ n
length-part bytes offset n h =
    omega (arith, length-take n (drop offset bytes), length-drop offset bytes)

-- the bytes of a number that was read are the bytes that it was read from
little_bytes-two : (bytes : List ℕ) (offset : ℕ) → ((i : ℕ) → get_or bytes i 0 < 256)
    → offset + 2 ≤ length bytes
    → little_bytes 2 (little_from offset 2 bytes) ≡ take 2 (drop offset bytes)
little_bytes-two bytes offset small h =
    le_bytes_2 (take 2 (drop offset bytes)) _ (length-part bytes offset 2 h)
    (part_small bytes offset 2 small)
    (let low = part_at bytes offset 2 0 offset (omega arith) (omega arith) in
    let high = part_at bytes offset 2 1 (suc offset) (omega arith) (omega arith) in
    omega (arith, low, high))

-- the same for four bytes
little_bytes-four : (bytes : List ℕ) (offset : ℕ) → ((i : ℕ) → get_or bytes i 0 < 256)
    → offset + 4 ≤ length bytes
    → little_bytes 4 (little_from offset 4 bytes) ≡ take 4 (drop offset bytes)
little_bytes-four bytes offset small h =
    le_bytes_4 (take 4 (drop offset bytes)) _ (length-part bytes offset 4 h)
    (part_small bytes offset 4 small)
    (let first = part_at bytes offset 4 0 offset (omega arith) (omega arith) in
    let second = part_at bytes offset 4 1 (suc offset) (omega arith) (omega arith) in
    let third = part_at bytes offset 4 2 (suc (suc offset)) (omega arith) (omega arith) in
    let fourth = part_at bytes offset 4 3 (suc (suc (suc offset))) (omega arith) (omega arith) in
    omega (arith, first, second, third, fourth))

-- the flags that mark a job or not
flags-read : (n : ℕ) → n ≤ 1 → flags (eqb n 1) ≡ n
flags-read zero h = refl
flags-read (suc zero) h = refl
flags-read (suc (suc n)) h = absurd (omega arith)

-- bytes that pass the checks are the image of what their fields say
pub read : (bytes : List ℕ) → ((i : ℕ) → get_or bytes i 0 < 256) → Passes bytes
    → IsImageOf (image_of bytes) bytes
unfolding image_of front
read bytes small p =
    let whole = p.whole in
    let enough = p.front in
    let after = length-drop 32 bytes in
    record {
      fits = record {
        code_bytes = λ k d h. (
            let inside : 32 + k < length bytes = omega arith in
            rw (get_or-drop 32 bytes k d, get_or_default bytes (32 + k) d 0 inside)
            (small (32 + k)));
        code_length = ((let some = p.some in omega arith), (let most = p.most in omega arith));
        entry_inside = (p.after, (let inside = p.inside in omega arith));
        budget_range = (p.turns, p.bounded);
      };
      packed = sym
          (fields_and_code bytes (little_bytes 2 (entry_field bytes))
          (little_bytes 2 (32 + length (drop 32 bytes))) (codes "FLKC") (little_bytes 2 1)
          (little_bytes 2 (flags (eqb (flags_field bytes) 1))) (little_bytes 4 (budget_field bytes))
          (replicate 16 0)
          (little_bytes-two bytes 0 small (omega arith))
          ((let e : 32 + length (drop 32 bytes) ≡ length_field bytes = omega arith in
          ap (little_bytes 2) e) ∙ little_bytes-two bytes 2 small (omega arith))
          (sym p.marked)
          (ap (little_bytes 2) (sym p.first) ∙ little_bytes-two bytes 8 small (omega arith))
          (ap (little_bytes 2) (flags-read (flags_field bytes) p.flagged)
          ∙ little_bytes-two bytes 10 small (omega arith))
          (little_bytes-four bytes 12 small (omega arith))
          (sym p.zeros));
    }

-- bytes without a fault are the image of what their fields say
pub image-read : (bytes : List ℕ) → ((i : ℕ) → get_or bytes i 0 < 256) → image_fault bytes ≡ None
    → IsImageOf (image_of bytes) bytes
image-read bytes small none = read bytes small (passes bytes none)
