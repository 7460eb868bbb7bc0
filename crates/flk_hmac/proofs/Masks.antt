-- The mask, byte by byte.
use Rattle.std.proofs.Common.{◌≡◌, ℕ, ◌+◌, ◌*◌, ◌/◌, ◌%◌, ◌<◌, ◌≤◌, List, length, take, drop}
use Rattle.std.proofs.Common.{get_or, bit_xor, refl, sym, ap, subst, ◌∙◌, inl, inr, min, ◌-◌, arith}
use Rattle.std.proofs.Common.{rules, length-take, length-drop}
use Rattle.std.specs.List.{enumerate_from}
use Rattle.std.specs.Int.Bits.{xor_assoc, xor_self, xor_zero_r}
use Rattle.std.proofs.lemmas.List.{length-map, get_or-map, ext_get_or, places}
use borrow.Rule.Slice.PartMut.{put_mid}
use Rattle.std.proofs.lemmas.List.FromFn.{length-enumerate_from, get_or-enumerate_from}
use Rattle.std.specs.Int.{div_ceil}
use Rattle.std.proofs.lemmas.Grind.{div_ceil_times}
use Rattle.std.proofs.lemmas.Bool.{cases_lt}
use Rattle.flk_hmac.specs.Mask.{mask_block, mask_byte, masked_bytes}

pub length-masked_bytes : (key : List ℕ) (serial : ℕ) (bytes : List ℕ)
    → length (masked_bytes key serial bytes) ≡ length bytes
unfolding masked_bytes
length-masked_bytes key serial bytes =
    length-map (enumerate_from 0 bytes) (λ e. bit_xor e.1 (mask_byte key serial e.0))
    ∙ length-enumerate_from 0 bytes

pub get_or-masked_bytes : (key : List ℕ) (serial : ℕ) (bytes : List ℕ) (index : ℕ)
    → index < length bytes
    → get_or (masked_bytes key serial bytes) index 0 ≡ bit_xor (get_or bytes index 0)
    (mask_byte key serial index)
unfolding masked_bytes
get_or-masked_bytes key serial bytes index h =
    let f : ℕ × ℕ → ℕ = λ e. bit_xor e.1 (mask_byte key serial e.0) in
    let inside : index < length (enumerate_from 0 bytes) =
    omega (arith, length-enumerate_from 0 bytes) in
    get_or-map f (enumerate_from 0 bytes) index (0, 0) 0 inside
    ∙ ap f (get_or-enumerate_from 0 bytes index (0, 0) h)
    ∙ ap (λ (p : ℕ). bit_xor (get_or bytes index 0) (mask_byte key serial p)) (omega arith)

xor_twice : (a b : ℕ) → bit_xor (bit_xor a b) b ≡ a
xor_twice a b = xor_assoc a b b ∙ ap (bit_xor a) (xor_self b) ∙ xor_zero_r a

pub masked_bytes-masked_bytes : (key : List ℕ) (serial : ℕ) (bytes : List ℕ)
    → masked_bytes key serial (masked_bytes key serial bytes) ≡ bytes
masked_bytes-masked_bytes key serial bytes =
    let once = length-masked_bytes key serial bytes in
    let twice = length-masked_bytes key serial (masked_bytes key serial bytes) in
    ext_get_or 0 (masked_bytes key serial (masked_bytes key serial bytes)) bytes (twice ∙ once)
    (λ index h.
    get_or-masked_bytes key serial (masked_bytes key serial bytes) index (omega arith)
    ∙ ap (λ (b : ℕ). bit_xor b (mask_byte key serial index))
    (get_or-masked_bytes key serial bytes index (omega arith))
    ∙ xor_twice (get_or bytes index 0) (mask_byte key serial index))

-- a part of a list made another of the same length

length-part : (a n : ℕ) (xs ys : List ℕ) → a + n ≤ length xs → length ys ≡ n
    → length (put_mid a n xs ys) ≡ length xs
length-part a n xs ys w l = search (rules, places)

part_below : (a n : ℕ) (xs ys : List ℕ) (k : ℕ) → a + n ≤ length xs → length ys ≡ n → k < a
    → get_or (put_mid a n xs ys) k 0 ≡ get_or xs k 0
part_below a n xs ys k w l h = search (rules, places)

part_inside : (a n : ℕ) (xs ys : List ℕ) (k : ℕ) → a + n ≤ length xs → length ys ≡ n → k < n
    → get_or (put_mid a n xs ys) (a + k) 0 ≡ get_or ys k 0
part_inside a n xs ys k w l h = search (rules, places)

part_above : (a n : ℕ) (xs ys : List ℕ) (k : ℕ) → a + n ≤ length xs → length ys ≡ n → a + n ≤ k
    → get_or (put_mid a n xs ys) k 0 ≡ get_or xs k 0
part_above a n xs ys k w l h = search (rules, places)

pub length-part_of : (a end : ℕ) (xs : List ℕ) → end ≤ length xs
    → length (take (end - a) (drop a xs)) ≡ end - a
length-part_of a end xs h = omega (arith, length-take (end - a) (drop a xs), length-drop a xs)

part_of : (a n : ℕ) (xs : List ℕ) (k : ℕ) → a + n ≤ length xs → k < n
    → get_or (take n (drop a xs)) k 0 ≡ get_or xs (a + k) 0
part_of a n xs k w h = search (rules, places)

-- the first n bytes are masked, and the others are as before
pub record MaskedBelow (key : List ℕ) (serial : ℕ) (old new : List ℕ) (n : ℕ) : Type 0 where
  pub long : length new ≡ length old
  pub done : (k : ℕ) → k < n → k < length old
      → get_or new k 0 ≡ bit_xor (get_or old k 0) (mask_byte key serial k)
  pub rest : (k : ℕ) → n ≤ k → get_or new k 0 ≡ get_or old k 0

pub masked-none : (key : List ℕ) (serial : ℕ) (bytes : List ℕ)
    → MaskedBelow key serial bytes bytes 0
masked-none key serial bytes =
    record { long = refl; done = λ k h l. absurd (omega arith); rest = λ k h. refl }

pub masked-all : (key : List ℕ) (serial : ℕ) (old new : List ℕ) (n : ℕ)
    → MaskedBelow key serial old new n → length old ≤ n → new ≡ masked_bytes key serial old
masked-all key serial old new n m h =
    ext_get_or 0 new (masked_bytes key serial old)
    (m.long ∙ sym (length-masked_bytes key serial old)) (λ k l.
    let inside : k < length old = (let e = m.long in omega arith) in
    m.done k (omega arith) inside ∙ sym (get_or-masked_bytes key serial old k inside))

-- byte i of a block is the byte of the mask at its index
mask_byte-block : (key : List ℕ) (serial block i : ℕ) → i < 20
    → get_or (mask_block key serial block) i 0 ≡ mask_byte key serial (20 * block + i)
mask_byte-block key serial block i h =
    let quotient : (20 * block + i) / 20 ≡ block = omega arith in
    let rest : (20 * block + i) % 20 ≡ i = omega arith in
    rw (quotient, rest) refl

-- the bytes of one more block
block_done : (key : List ℕ) (serial : ℕ) (old new part m : List ℕ) (block n : ℕ)
    → MaskedBelow key serial old new (20 * block) → 20 * block + n ≤ length new → n ≤ 20
    → m ≡ mask_block key serial block → length part ≡ n
    → ((i : ℕ) → i < length part
    → get_or part i 0 ≡ bit_xor (get_or (take n (drop (20 * block) new)) i 0) (get_or m i 0))
    → (i : ℕ) → i < n
    → get_or (put_mid (20 * block) n new part) (20 * block + i) 0
    ≡ bit_xor (get_or old (20 * block + i) 0) (mask_byte key serial (20 * block + i))
block_done key serial old new part m block n before fits few is_block long each i h =
    let was = part_of (20 * block) n new i fits h ∙ before.rest (20 * block + i) (omega arith) in
    let by = ap (λ (xs : List ℕ). get_or xs i 0) is_block
    ∙ mask_byte-block key serial block i (omega arith) in
    part_inside (20 * block) n new part i fits long h
    ∙ each i (omega arith)
    ∙ ap (λ (b : ℕ). bit_xor b (get_or m i 0)) was
    ∙ ap (bit_xor (get_or old (20 * block + i) 0)) by

-- one block more
pub masked-more : (key : List ℕ) (serial : ℕ) (old new part m : List ℕ) (block end : ℕ)
    → MaskedBelow key serial old new (20 * block) → 20 * block < length old
    → end ≡ min (length new) (20 * block + 20) → m ≡ mask_block key serial block
    → length part ≡ end - 20 * block
    → ((i : ℕ) → i < length part
    → get_or part i 0 ≡ bit_xor (get_or (take (end - 20 * block) (drop (20 * block) new)) i 0)
    (get_or m i 0))
    → MaskedBelow key serial old (put_mid (20 * block) (end - 20 * block) new part)
    (20 * (block + 1))
masked-more key serial old new part m block end before begun ended is_block long each =
    let a = 20 * block in
    let n = end - 20 * block in
    let same = before.long in
    let fits : a + n ≤ length new = omega arith in
    record {
      long = length-part a n new part fits long ∙ same;
      done = λ k h l. elim (cases_lt k a) [
        | inl b ↦ part_below a n new part k fits long b ∙ before.done k b l
        | inr b ↦
            let at : a + (k - a) ≡ k = omega arith in
            let P : ℕ → Type 0 =
            λ p. get_or (put_mid a n new part) p 0 ≡ bit_xor (get_or old p 0)
            (mask_byte key serial p) in
            subst P at (block_done key serial old new part m block n before fits (omega arith)
            is_block long each (k - a) (omega arith))
      ];
      rest = λ k h. elim (cases_lt k (a + n)) [
        | inl b ↦ absurd (omega arith)
        | inr b ↦ part_above a n new part k fits long b ∙ before.rest k (omega arith)
      ];
    }

-- a block that is to be masked begins before the end
pub begins_before_end : (n block : ℕ) → block < div_ceil n 20 → 20 * block < n
begins_before_end n block h = omega (arith, div_ceil_times n 20 (omega arith))

-- as many blocks as are masked hold all bytes
pub ends_all : (n block : ℕ) → div_ceil n 20 ≤ block → n ≤ 20 * block
ends_all n block h = omega (arith, div_ceil_times n 20 (omega arith))
