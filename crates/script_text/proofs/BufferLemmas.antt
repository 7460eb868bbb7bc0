-- Laws of the parts of a reader's buffer.
use Rattle.std.proofs.Common.{Bool, false, zero, ◌⊎◌, inl, inr, eqb, ne_eqb, ◌≡◌, ◌≢◌, ℕ, ◌+◌, ◌-◌, ◌<◌, ◌≤◌, suc, true, not, List, [], ◌∷◌, ◌++◌, length, take, drop, refl, sym, ap, subst, ◌∙◌, arith, take-add, drop-drop}
use Rattle.std.specs.Prelude.{Option, slice_range, slice_index}
use Rattle.std.specs.Io.KnownBytes.{IsAtEnd}
use Rattle.std.proofs.lemmas.List.{take_at, drop_more}
use Rattle.std.proofs.lemmas.List.Edits.{length-between}
use Rattle.std.proofs.lemmas.List.Elements.{All-append}
use Rattle.std.proofs.lemmas.Slice.{between_is}
use Rattle.script_text.specs.Lines.{is_line_end, IsOneLine}
use Rattle.script_text.specs.declared.line.TheConstants.{LONGEST_LINE}
use Rattle.script_text.specs.Reader.{Held, HasLongPrefix}
use Rattle.script_text.specs.declared.reader.TheConstants.{READ_SIZE}
use Rattle.script_text.specs.Buffered.{IsBuffered, IsLineEndAt}

-- a part up to an index, and the part after it
pub range_join : (xs : List ℕ) (a b c : ℕ) → a ≤ b → b ≤ c
    → slice_range xs a c ≡ slice_range xs a b ++ slice_range xs b c
range_join xs a b c ab bc =
    let n : c - a ≡ (b - a) + (c - b) = omega arith in
    let m : a + (b - a) ≡ b = omega arith in
    ap (λ k. take k (drop a xs)) n ∙ take-add (b - a) (c - b) (drop a xs)
    ∙ ap (λ r. take (b - a) (drop a xs) ++ take (c - b) r)
    (drop-drop (b - a) a xs ∙ ap (λ k. drop k xs) m)

-- a part that begins with a byte
pub range_head : (xs : List ℕ) (b c : ℕ) → b < c → c ≤ length xs
    → slice_range xs b c ≡ slice_index xs b ∷ slice_range xs (b + 1) c
range_head xs b c bc within =
    let n : c - b ≡ suc (c - (b + 1)) = omega arith in
    ap (λ r. take (c - b) r) (drop_more xs b 0 (omega arith))
    ∙ ap (λ k. take k (slice_index xs b ∷ drop (b + 1) xs)) n

-- bytes that keep a prefix keep each part of it
pub range_kept : (xs ys : List ℕ) (a b : ℕ) → take b ys ≡ take b xs
    → slice_range ys a b ≡ slice_range xs a b
range_kept xs ys a b same = between_is ys a b ∙ ap (λ r. drop a r) same ∙ sym (between_is xs a b)

IsOneLine-append : (xs ys : List ℕ) → IsOneLine xs → IsOneLine ys → IsOneLine (xs ++ ys)
IsOneLine-append xs ys = All-append (λ c. not (is_line_end c) ≡ true) xs ys

-- searched up to one index, and from it up to another
pub one_more : (xs : List ℕ) (a b c : ℕ) → a ≤ b → b ≤ c → IsOneLine (slice_range xs a b)
    → IsOneLine (slice_range xs b c) → IsOneLine (slice_range xs a c)
one_more xs a b c ab bc p q =
    subst IsOneLine (sym (range_join xs a b c ab bc)) (IsOneLine-append _ _ p q)

module _ (buffer : List ℕ) (line_start line_end start seen end : ℕ) where
  -- the search goes on up to a limit
  pub searched_on : (limit : ℕ) → IsBuffered buffer line_start line_end start seen end
      → seen ≤ limit → limit ≤ end → limit ≤ start + (LONGEST_LINE + 1)
      → IsOneLine (slice_range buffer seen limit)
      → IsBuffered buffer line_start line_end start limit end
  searched_on limit is low high near one =
      record {
        size = is.size;
        line = is.line;
        given = is.given;
        searched = omega (arith, is.searched);
        unsearched = high;
        within = is.within;
        prefix = near;
        after = omega (arith, is.after);
        one = one_more buffer start seen limit is.searched low is.one one;
      }

  -- as many bytes are held as the search and one read allow
  pub length_held : IsBuffered buffer line_start line_end start seen end
      → length (slice_range buffer start end) ≤ LONGEST_LINE + 1 + READ_SIZE
  length_held is = omega (arith, length-between buffer start end is.within, is.prefix, is.after)

  -- a prefix that was searched as far as a line may reach
  pub long_prefix : IsBuffered buffer line_start line_end start seen end
      → seen ≡ start + (LONGEST_LINE + 1) → HasLongPrefix (slice_range buffer start end)
  long_prefix is far =
      record {
        prefix = slice_range buffer start seen;
        more = slice_range buffer seen end;
        whole = range_join buffer start seen end is.searched is.unsearched;
        long = length-between buffer start seen (omega (arith, is.unsearched, is.within))
            ∙ omega arith;
        one = is.one;
      }

  -- a line and its LF before what is held
  pub line_prefix : (limit position : ℕ) → IsBuffered buffer line_start line_end start seen end
      → limit ≤ end → IsLineEndAt buffer seen limit position
      → slice_range buffer start end ≡ slice_range buffer start position
      ++ 10 ∷ slice_range buffer (position + 1) end
  line_prefix limit position is high at =
      range_join buffer start position end (omega (arith, is.searched, at.low))
      (omega (arith, at.high))
      ∙ ap (λ r. slice_range buffer start position ++ r)
      (range_head buffer position end (omega (arith, at.high)) is.within
      ∙ ap (λ c. c ∷ slice_range buffer (position + 1) end) at.end)

  -- all that is held was searched, and is no longer than a line
  pub open_prefix : IsBuffered buffer line_start line_end start seen end → seen ≡ end
      → seen ≢ start + (LONGEST_LINE + 1)
      → IsOneLine (slice_range buffer start end)
      × (length (slice_range buffer start end) ≤ LONGEST_LINE)
  open_prefix is all near = (
    subst (λ (n : ℕ). IsOneLine (slice_range buffer start n)) all is.one,
    omega (arith, length-between buffer start end is.within, is.prefix),
  )

-- what a vector holds where all its items are written anew
pub refilled : (n : ℕ) (new old : List ℕ) → length new ≡ n
    → take n (new ++ drop (length new) old) ≡ new
refilled n new old full = take_at new (drop (length new) old) n full

-- what is held is moved, and then kept before a read
pub held_kept : (buffer moved_from moved read_from read : List ℕ) (start end from seen : ℕ)
    → moved_from ≡ buffer
    → slice_range moved from seen ≡ slice_range moved_from start end → read_from ≡ moved
    → take seen read ≡ take seen read_from
    → slice_range read from seen ≡ slice_range buffer start end
held_kept buffer moved_from moved read_from read start end from seen same held again prefix =
    range_kept read_from read from seen prefix ∙ ap (λ xs. slice_range xs from seen) again ∙ held
    ∙ ap (λ xs. slice_range xs start end) same

-- two states are equal where their parts are
pub same_held : (a b : Held) → a.bytes ≡ b.bytes → a.ended ≡ b.ended → a.line ≡ b.line → a ≡ b
same_held a b p q r =
    ap (λ (t : List ℕ × Bool
    × List ℕ). let h : Held = record { bytes = t.0; ended = t.1; line = t.2 } in h) (cc)

module _ (size : ℕ) (read before bytes : List ℕ) (start seen end : ℕ) where
  -- the buffer after a read that follows bytes that were searched
  pub after_read : length read ≡ size → size ≡ LONGEST_LINE + 1 + READ_SIZE → start ≤ seen
      → seen ≤ end → end ≤ seen + READ_SIZE → seen + READ_SIZE ≤ length read
      → slice_range read start seen ≡ bytes → IsOneLine bytes → length bytes ≤ LONGEST_LINE
      → IsBuffered (take size (read ++ drop (length read) before)) 0 0 start seen end
  after_read full whole low high few room held one short =
      let is : IsBuffered read 0 0 start seen end =
      record {
        size = full ∙ whole;
        line = omega arith;
        given = omega arith;
        searched = low;
        unsearched = high;
        within = omega arith;
        prefix = omega (arith, length-between read start seen (omega arith), ap length held);
        after = few;
        one = subst IsOneLine (sym held) one;
      } in
      subst (λ xs. IsBuffered xs 0 0 start seen end) (sym (refilled size read before full)) is

-- a read of no byte is the end, and any other gives bytes
pub read_cases : (count : ℕ) (room : List ℕ) (now : Option (List ℕ)) → count ≤ length room
    → 0 < length room → (count ≡ 0 → 0 < length room → IsAtEnd now)
    → ((eqb count 0 ≡ false) × (take count room ≢ []))
    ⊎ ((eqb count 0 ≡ true) × (take count room ≡ []) × IsAtEnd now)
read_cases zero room now fits some at = inr (refl, refl, at refl some)
read_cases (suc n) [] now fits some at = absurd (omega arith)
read_cases (suc n) (x ∷ room) now fits some at =
    inl (ne_eqb (suc n) 0 (λ e. omega arith), λ e. (cc))
