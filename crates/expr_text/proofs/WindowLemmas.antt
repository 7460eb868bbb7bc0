-- What suffixes make of a value, by the window that they leave of it and the bytes that they flip
-- in it.
use Rattle.std.proofs.Common.{◌≡◌, ◌⊎◌, inl, inr, ℕ, ◌+◌, ◌-◌, ◌<◌, ◌≤◌, false, List, [], ◌∷◌, ◌++◌, length, get_or, set, take, drop, refl, sym, ap, ◌∙◌, arith, append_assoc, take-add, length-drop, length-set}
use Rattle.std.specs.Prelude.{Ok, Err, nat_le, nat_lt, ◌&&◌, slice_range}
use Rattle.std.proofs.lemmas.Bool.{cases_Bool, and_parts, leb-true, lt-leb, ltb-true}
use Rattle.std.proofs.lemmas.Bool.Decides.{leb_tells}
use Rattle.std.proofs.lemmas.List.{set-append_left, set-append_right, set_past, get_or_append_left, get_or-append_right, get_or-take, get_or-drop, take-take, take-set-le, take_at, take_all, take-append-drop, length-take-le, nil_from_length, drop-drop, drop-take, drop-set-lt, drop-set-add}
use Rattle.std.proofs.lemmas.List.Edits.{length-between}
use Rattle.expr_text.specs.Expressions.{Suffix, Cut, Flip}
use Rattle.expr_text.specs.Values.{flip_of, suffix_value, suffixes_value}
use Rattle.expr_text.specs.Windows.{window_after, window_after_all, flip_at, change_by, start_after, changes_by, IsWithin}
use Rattle.expr_text.specs.declared.value.Window.{Window}
use Rattle.expr_text.specs.declared.value.ExprFault.{ExprFault}
use Rattle.expr_text.specs.declared.value.ExprFault.TheVariants.{Range}

-- ---- flips in parts

-- a list with the byte at an index flip_of, where there is one
abbrev flip_in : List ℕ → ℕ → List ℕ
flip_in xs i = set xs i (flip_of (get_or xs i 0))

flip_left : (xs ys : List ℕ) (i : ℕ) → i < length xs → flip_in (xs ++ ys) i ≡ flip_in xs i ++ ys
flip_left xs ys i h =
    ap (λ b. set (xs ++ ys) i (flip_of b)) (get_or_append_left xs ys 0 i h)
    ∙ set-append_left xs ys i _ h

flip_right : (xs ys : List ℕ) (i : ℕ) → length xs ≤ i
    → flip_in (xs ++ ys) i ≡ flip_in xs i ++ flip_in ys (i - length xs)
flip_right xs ys i h =
    ap (λ b. set (xs ++ ys) i (flip_of b)) (get_or-append_right xs ys (length xs) i 0 refl h)
    ∙ set-append_right xs ys (length xs) i _ refl h
    ∙ ap (λ r. r ++ flip_in ys (i - length xs)) (sym (set_past xs i _ h))

flip_at-append : (position start : ℕ) (xs ys : List ℕ)
    → flip_at position start (xs ++ ys)
    ≡ flip_at position start xs ++ flip_at position (start + length xs) ys
flip_at-append position start xs ys =
    elim (leb_tells start position) [
      | inl low ↦
          let l = low.0 in
          elim (leb_tells (start + length xs) position) [
            | inl far ↦
                let f = far.0 in
                let same : position - (start + length xs)
                ≡ (position - start) - length xs = omega arith in
                rw (l, f, same) (flip_right xs ys (position - start) (omega (arith, low.1, far.1)))
            | inr near ↦ let n = near.0 in rw (l, n)
                (flip_left xs ys (position - start) (omega (arith, low.1, near.1)))
          ]
      | inr high ↦
          let h = high.0 in
          let n : nat_le (start + length xs) position
          ≡ false = lt-leb (start + length xs) position (omega (arith, high.1)) in
          rw (h, n) refl
    ]

length-flip_at : (position start : ℕ) (xs : List ℕ) → length (flip_at position start xs) ≡ length xs
length-flip_at position start xs =
    elim (leb_tells start position) [
      | inl low ↦ let l = low.0 in rw l (length-set xs (position - start) _)
      | inr high ↦ let h = high.0 in rw h refl
    ]

change_by-append : (s : Suffix) (base start : ℕ) (xs ys : List ℕ)
    → change_by s base start (xs ++ ys)
    ≡ change_by s base start xs ++ change_by s base (start + length xs) ys
change_by-append (Cut a b) base start xs ys = refl
change_by-append (Flip n) base start xs ys = flip_at-append (base + n) start xs ys

length-change_by : (s : Suffix) (base start : ℕ) (xs : List ℕ)
    → length (change_by s base start xs) ≡ length xs
length-change_by (Cut a b) base start xs = refl
length-change_by (Flip n) base start xs = length-flip_at (base + n) start xs

-- a part is changes_by piece by piece
pub changes_by-append : (ss : List Suffix) (base start : ℕ) (xs ys : List ℕ)
    → changes_by ss base start (xs ++ ys)
    ≡ changes_by ss base start xs ++ changes_by ss base (start + length xs) ys
changes_by-append [] base start xs ys = refl
changes_by-append (s ∷ ss) base start xs ys =
    ap (changes_by ss (start_after s base) start) (change_by-append s base start xs ys)
    ∙ changes_by-append ss (start_after s base) start (change_by s base start xs)
    (change_by s base (start + length xs) ys)
    ∙ ap (λ n. changes_by ss (start_after s base) start (change_by s base start xs)
    ++ changes_by ss (start_after s base) (start + n) (change_by s base (start + length xs) ys))
    (length-change_by s base start xs)

pub length-changes_by : (ss : List Suffix) (base start : ℕ) (xs : List ℕ)
    → length (changes_by ss base start xs) ≡ length xs
length-changes_by [] base start xs = refl
length-changes_by (s ∷ ss) base start xs =
    length-changes_by ss (start_after s base) start (change_by s base start xs)
    ∙ length-change_by s base start xs

-- ---- parts of a value after a suffix

cut_part : (xs : List ℕ) (a b from start n : ℕ) → a ≤ b → b ≤ length xs → from + a ≤ start
    → start + n ≤ from + a + (b - a)
    → take n (drop (start - from) xs)
    ≡ take n (drop (start - (from + a)) (take (b - a) (drop a xs)))
cut_part xs a b from start n ab bn low high =
    let k = start - (from + a) in
    let m = (b - a) - k in
    let p : start - from ≡ a + k = omega arith in
    let q : b - a ≡ k + m = omega arith in
    let fits : n ≤ m = omega arith in
    ap (λ j. take n (drop j xs)) p ∙ ap (take n) (sym (drop-drop k a xs))
    ∙ sym (take-take n m (drop k (drop a xs)) fits)
    ∙ ap (take n) (sym (drop-take k m (drop a xs)) ∙ ap (λ j. drop k (take j (drop a xs))) (sym q))

-- the prefix of a list with a byte flip_of
flip_prefix : (zs : List ℕ) (i n : ℕ) → n ≤ length zs
    → flip_in (take n zs) i ≡ take n (set zs i (flip_of (get_or zs i 0)))
flip_prefix zs i n fits =
    let l : length (take n zs) ≡ n = length-take-le n zs fits in
    elim (leb_tells n i) [
      | inl far ↦ set_past (take n zs) i _ (omega (arith, far.1)) ∙ sym (take-set-le n zs i _ far.1)
      | inr near ↦
          let v = flip_of (get_or zs i 0) in
          let whole : set (take n zs ++ drop n zs) i v
          ≡ set (take n zs) i v ++ drop n zs = set-append_left (take n zs) (drop n zs) i v
          (omega (arith, near.1)) in
          ap (λ b. set (take n zs) i (flip_of b)) (get_or-take n zs i 0 near.1)
          ∙ sym (take_at (set (take n zs) i v) (drop n zs) n (length-set (take n zs) i v ∙ l))
          ∙ ap (take n) (sym whole ∙ ap (λ ys. set ys i v) (take-append-drop n zs))
    ]

flip_part : (xs : List ℕ) (at from start n : ℕ) → from ≤ start → start + n ≤ from + length xs
    → flip_at (from + at) start (take n (drop (start - from) xs))
    ≡ take n (drop (start - from) (set xs at (flip_of (get_or xs at 0))))
flip_part xs at from start n low high =
    let k = start - from in
    elim (leb_tells start (from + at)) [
      | inl in' ↦
          let l = in'.0 in
          let i = from + at - start in
          let p : at ≡ k + i = omega (arith, in'.1) in
          let fits : n ≤ length (drop k xs) = omega (arith, length-drop k xs) in
          rw l
          (flip_prefix (drop k xs) i n fits
          ∙ ap (take n) (ap (λ b. set (drop k xs) i (flip_of b)) (get_or-drop k xs i 0)
          ∙ sym (drop-set-add k xs i (flip_of (get_or xs (k + i) 0)))
          ∙ ap (λ j. drop k (set xs j (flip_of (get_or xs j 0)))) (sym p)))
      | inr before ↦
          let h = before.0 in
          rw h (ap (take n) (sym (drop-set-lt k xs at _ (omega (arith, before.1)))))
    ]

-- what one suffix makes of a value, and of the window that the value fills
pub record Step (s : Suffix) (xs ys : List ℕ) (w left : Window) : Type 0 where
  pub bytes : suffix_value s xs ≡ Ok ys
  pub window : window_after s w ≡ Ok left
  pub len : left.len ≡ length ys
  pub low : w.from ≤ left.from
  pub within : left.from + left.len ≤ w.from + length xs
  pub from : start_after s w.from ≡ left.from
  pub part : (start n : ℕ) → left.from ≤ start → start + n ≤ left.from + left.len
      → change_by s w.from start (take n (drop (start - w.from) xs))
      ≡ take n (drop (start - left.from) ys)

-- each suffix has a step, or is past the value
abbrev Stepped : Suffix → List ℕ → Window → Type 0
Stepped s xs w =
    ((ys : List ℕ) × (left : Window) × Step s xs ys w left)
    ⊎ ((suffix_value s xs ≡ Err Range) × (window_after s w ≡ Err Range))

cut_step : (a b : ℕ) (xs : List ℕ) (w : Window) → w.len ≡ length xs → Stepped (Cut a b) xs w
cut_step a b xs w e =
    elim (cases_Bool (nat_le a b && nat_le b (length xs))) [
      | inl ok ↦
          let p = and_parts _ _ ok in
          let ab = leb-true a b p.0 in
          let bn = leb-true b (length xs) p.1 in
          let left : Window = record { from = w.from + a; len = b - a } in
          inl (
            slice_range xs a b,
            left,
            record {
              bytes = rw ok refl;
              window = rw (e, ok) refl;
              len = sym (length-between xs a b bn);
              low = omega arith;
              within = omega arith;
              from = refl;
              part = λ start n low high. cut_part xs a b w.from start n ab bn low high;
            },
          )
      | inr bad ↦ inr (rw bad refl, rw (e, bad) refl)
    ]

flip_step : (at : ℕ) (xs : List ℕ) (w : Window) → w.len ≡ length xs → Stepped (Flip at) xs w
flip_step at xs w e =
    elim (cases_Bool (nat_lt at (length xs))) [
      | inl ok ↦
          inl (
            flip_in xs at,
            w,
            record {
              bytes = rw ok refl;
              window = rw (e, ok) refl;
              len = e ∙ sym (length-set xs at _);
              low = omega arith;
              within = omega arith;
              from = refl;
              part = λ start n low high. flip_part xs at w.from start n low (omega arith);
            },
          )
      | inr bad ↦ inr (rw bad refl, rw (e, bad) refl)
    ]

stepped : (s : Suffix) (xs : List ℕ) (w : Window) → w.len ≡ length xs → Stepped s xs w
stepped (Cut a b) xs w e = cut_step a b xs w e
stepped (Flip at) xs w e = flip_step at xs w e

-- ---- all the suffixes

-- what suffixes leave of a window, and what they make of the value that fills it
pub record Left (ss : List Suffix) (xs : List ℕ) (w left : Window) : Type 0 where
  pub window : window_after_all ss w ≡ Ok left
  pub low : w.from ≤ left.from
  pub within : left.from + left.len ≤ w.from + length xs
  pub bytes : suffixes_value ss xs ≡ Ok
      (changes_by ss w.from left.from (take left.len (drop (left.from - w.from) xs)))

-- suffixes find the same fault in a value as in its window
pub record Refused (ss : List Suffix) (xs : List ℕ) (w : Window) (fault : ExprFault) : Type 0 where
  pub bytes : suffixes_value ss xs ≡ Err fault
  pub window : window_after_all ss w ≡ Err fault

left_more : (s : Suffix) (ss : List Suffix) (xs ys : List ℕ) (w next left : Window)
    → Step s xs ys w next → Left ss ys next left → Left (s ∷ ss) xs w left
left_more s ss xs ys w next left h r =
    let here = h.bytes in
    let there = h.window in
    let part = h.part left.from left.len r.low (omega (arith, r.within, h.len)) in
    record {
      window = rw there r.window;
      low = omega (arith, h.low, r.low);
      within = omega (arith, h.within, r.within, h.len);
      bytes = rw here (r.bytes ∙ ap (λ zs. Ok (changes_by ss next.from left.from zs)) (sym part)
          ∙ ap (λ base. Ok (changes_by ss base left.from
          (change_by s w.from left.from (take left.len (drop (left.from - w.from) xs)))))
          (sym h.from));
    }

pub outcome : (ss : List Suffix) (xs : List ℕ) (w : Window) → w.len ≡ length xs
    → ((left : Window) × Left ss xs w left) ⊎ ((fault : ExprFault) × Refused ss xs w fault)
outcome [] xs w e =
    let none : w.from - w.from ≡ 0 = omega arith in
    inl (
      w,
      record {
        window = refl;
        low = omega arith;
        within = omega arith;
        bytes = ap (λ ys. Ok ys)
            (sym (ap (λ k. take w.len (drop k xs)) none ∙ take_all w.len xs (omega arith)));
      },
    )
outcome (s ∷ ss) xs w e =
    elim (stepped s xs w e) [
      | inl step ↦
          let here = step.2.bytes in
          let there = step.2.window in
          elim (outcome ss step.0 step.1 step.2.len) [
            | inl rest ↦ inl (rest.0, left_more s ss xs step.0 w step.1 rest.0 step.2 rest.1)
            | inr bad ↦ inr
                (bad.0, record { bytes = rw here bad.1.bytes; window = rw there bad.1.window })
          ]
      | inr bad ↦
          let here = bad.0 in
          let there = bad.1 in
          inr (Range, record { bytes = rw here refl; window = rw there refl })
    ]

-- ---- a window, piece by piece

pub changes_by-nil : (ss : List Suffix) (base start : ℕ) → changes_by ss base start [] ≡ []
changes_by-nil ss base start = nil_from_length _ (length-changes_by ss base start [])

pub window_more : (ss : List Suffix) (xs old made new : List ℕ) (from len done n : ℕ)
    → from + len ≤ length xs → done + n ≤ len
    → made ≡ old ++ changes_by ss 0 from (take done (drop from xs))
    → new ≡ made ++ changes_by ss 0 (from + done) (take n (drop (from + done) xs))
    → new ≡ old ++ changes_by ss 0 from (take (done + n) (drop from xs))
window_more ss xs old made new from len done n within fits before more =
    let prefix = take done (drop from xs) in
    let piece = take n (drop (from + done) xs) in
    let l : length prefix ≡ done = length-take-le done (drop from xs)
    (omega (arith, length-drop from xs)) in
    let whole : take (done + n) (drop from xs) ≡ prefix ++ piece = take-add done n (drop from xs)
    ∙ ap (λ ys. prefix ++ take n ys) (drop-drop done from xs) in
    more ∙ ap (λ ys. ys ++ changes_by ss 0 (from + done) piece) before
    ∙ append_assoc old (changes_by ss 0 from prefix) (changes_by ss 0 (from + done) piece)
    ∙ ap (λ ys. old ++ ys)
    (ap (λ k. changes_by ss 0 from prefix ++ changes_by ss 0 (from + k) piece) (sym l)
    ∙ sym (changes_by-append ss 0 from prefix piece) ∙ ap (changes_by ss 0 from) (sym whole))

-- ---- indices

-- where suffixes leave a window, the indices that they name are not past the end of the one that
-- they were given
pub within_window_after : (ss : List Suffix) (w left : Window) (end : ℕ) → w.from + w.len ≤ end
    → window_after_all ss w ≡ Ok left → IsWithin ss w.from end
within_window_after [] w left end fits is = omega arith
within_window_after (Cut a b ∷ ss) w left end fits is =
    elim (cases_Bool (nat_le a b && nat_le b w.len)) [
      | inl ok ↦
          let p = and_parts _ _ ok in
          let ab = leb-true a b p.0 in
          let bn = leb-true b w.len p.1 in
          let next : Window = record { from = w.from + a; len = b - a } in
          (omega arith, within_window_after ss next left end (omega arith) (rw ok at is))
      | inr bad ↦ let no = rw bad at is in absurd (cc)
    ]
within_window_after (Flip n ∷ ss) w left end fits is =
    elim (cases_Bool (nat_lt n w.len)) [
      | inl ok ↦ let low = ltb-true n w.len ok in
          (omega arith, within_window_after ss w left end fits (rw ok at is))
      | inr bad ↦ let no = rw bad at is in absurd (cc)
    ]
