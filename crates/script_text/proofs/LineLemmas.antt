-- Laws of the lines of bytes: how they are cut off, one after another.
use Rattle.std.proofs.Common.{◌≡◌, ◌≢◌, ◌⊎◌, ℕ, ◌+◌, ◌<◌, ◌≤◌, Bool, true, false, not, cond, List, [], ◌∷◌, ◌++◌, length, refl, sym, ap, subst, ◌∙◌, inl, inr, append_assoc, length-append, arith, zero-add, lt-ltb, le-leb}
use Rattle.std.specs.List.{All, AllByRecursion, slice_split, onto_first}
use Rattle.std.proofs.lemmas.Bool.{not-true, not_from_false, or_left, or_right, and_from, cond-true, cases_Bool, eqb-true}
use Rattle.std.proofs.lemmas.List.Elements.{All-weaker, All-append, All-nil, All-cons}
use Rattle.std.proofs.lemmas.List.Splits.{slice_split_none, slice_split_at}
use Rattle.script_text.specs.Lines.{is_line_end, IsOneLine, but_last, last_of, whole_lines, rest_of, with_ends, has_bytes, counts, rest_lines, lines_from, script_lines}
use Rattle.script_text.specs.declared.line.TheConstants.{LONGEST_LINE, MOST_LINES}
use Rattle.script_text.specs.Reader.{HasLongPrefix}

-- lines, each of which has no LF
abbrev pub AreLines : List (List ℕ) → Type 0
AreLines lines = AllByRecursion IsOneLine lines

-- a first line, and what follows it
pub record FirstLine (lines : List (List ℕ)) : Type 0 where
  pub first : List ℕ
  pub more : List (List ℕ)
  pub whole : lines ≡ first ∷ more

-- a split has a first piece
record Pieces (pieces : List (List ℕ)) : Type 0 where
  first : List ℕ
  others : List (List ℕ)
  whole : pieces ≡ first ∷ others

has_pieces-onto : (x : ℕ) (pieces : List (List ℕ)) → Pieces (onto_first x pieces)
has_pieces-onto x [] = record { first = x ∷ []; others = []; whole = refl }
has_pieces-onto x (part ∷ parts) = record { first = x ∷ part; others = parts; whole = refl }

has_pieces-cond : (b : Bool) (x : ℕ) (pieces : List (List ℕ))
    → Pieces (cond b ([] ∷ pieces) (onto_first x pieces))
has_pieces-cond true x pieces = record { first = []; others = pieces; whole = refl }
has_pieces-cond false x pieces = has_pieces-onto x pieces

has_pieces : (bytes : List ℕ) → Pieces (slice_split is_line_end bytes)
has_pieces [] = record { first = []; others = []; whole = refl }
has_pieces (x ∷ xs) = has_pieces-cond (is_line_end x) x (slice_split is_line_end xs)

but_last-cons : (line : List ℕ) (pieces : List (List ℕ)) → Pieces pieces
    → but_last (line ∷ pieces) ≡ line ∷ but_last pieces
but_last-cons line pieces p = rw p.whole refl

last_of-cons : (line : List ℕ) (pieces : List (List ℕ)) → Pieces pieces
    → last_of (line ∷ pieces) ≡ last_of pieces
last_of-cons line pieces p = rw p.whole refl

no_ends : (line : List ℕ) → IsOneLine line → All (λ c. is_line_end c ≡ false) line
no_ends line one = All-weaker _ _ (λ c h. not-true (is_line_end c) h) line one

split_at_end : (line bytes : List ℕ) → IsOneLine line
    → slice_split is_line_end (line ++ 10 ∷ bytes) ≡ line ∷ slice_split is_line_end bytes
split_at_end line bytes one = slice_split_at is_line_end line 10 bytes (no_ends line one) refl

-- bytes that begin with a line and its LF
pub whole_lines-cons : (line bytes : List ℕ) → IsOneLine line
    → whole_lines (line ++ 10 ∷ bytes) ≡ line ∷ whole_lines bytes
whole_lines-cons line bytes one =
    ap but_last (split_at_end line bytes one) ∙ but_last-cons line _ (has_pieces bytes)

pub rest_of-cons : (line bytes : List ℕ) → IsOneLine line
    → rest_of (line ++ 10 ∷ bytes) ≡ rest_of bytes
rest_of-cons line bytes one =
    ap last_of (split_at_end line bytes one) ∙ last_of-cons line _ (has_pieces bytes)

-- bytes without an LF
pub one_line : (bytes : List ℕ) → IsOneLine bytes
    → (whole_lines bytes ≡ []) × (rest_of bytes ≡ bytes)
one_line bytes one =
    let split = slice_split_none is_line_end bytes (no_ends bytes one) in
    (ap but_last split, ap last_of split)

-- the line that they begin with is the first
pub lines_from-cons : (line : List ℕ) (before : ℕ) (bytes : List ℕ) (ended : Bool) → IsOneLine line
    → lines_from before (line ++ 10 ∷ bytes) ended ≡ line ∷ lines_from (before + 1) bytes ended
lines_from-cons line before bytes ended one =
    rw (whole_lines-cons line bytes one, rest_of-cons line bytes one)
    (let n : before + length (line ∷ whole_lines bytes)
    ≡ before + 1 + length (whole_lines bytes) = omega arith in
    ap (λ k. line ∷ (whole_lines bytes ++ rest_lines k (rest_of bytes) ended)) n)

-- bytes without an LF are the one line or none
pub lines_from-one : (before : ℕ) (bytes : List ℕ) (ended : Bool) → IsOneLine bytes
    → lines_from before bytes ended ≡ rest_lines before bytes ended
lines_from-one before bytes ended one =
    let parts = one_line bytes one in
    rw (parts.0, parts.1) (ap (λ k. rest_lines k bytes ended) (omega arith))

with_ends-split : (line : List ℕ) (lines : List (List ℕ)) (bytes : List ℕ)
    → with_ends (line ∷ lines) ++ bytes ≡ line ++ 10 ∷ (with_ends lines ++ bytes)
with_ends-split line lines bytes = append_assoc line (10 ∷ with_ends lines) bytes

-- whole lines before others stay the first lines
pub lines_from-append : (lines : List (List ℕ)) (before : ℕ) (bytes : List ℕ) (ended : Bool)
    → AreLines lines
    → lines_from before (with_ends lines ++ bytes) ended
    ≡ lines ++ lines_from (before + length lines) bytes ended
lines_from-append [] before bytes ended all = ap (λ k. lines_from k bytes ended) (omega arith)
lines_from-append (line ∷ lines) before bytes ended all =
    ap (λ s. lines_from before s ended) (with_ends-split line lines bytes)
    ∙ lines_from-cons line before (with_ends lines ++ bytes) ended all.0
    ∙ ap (λ r. line ∷ r) (lines_from-append lines (before + 1) bytes ended all.1)
    ∙ ap (λ k. line ∷ (lines ++ lines_from k bytes ended)) (omega arith)

-- the same of a script
pub split_more : (lines : List (List ℕ)) (bytes : List ℕ) (ended : Bool) → AreLines lines
    → script_lines (with_ends lines ++ bytes) ended ≡ lines ++ lines_from (length lines) bytes ended
split_more lines bytes ended all =
    lines_from-append lines 0 bytes ended all
    ∙ ap (λ k. lines ++ lines_from k bytes ended) (zero-add (length lines))

pub with_ends-append : (xs ys : List (List ℕ)) → with_ends (xs ++ ys) ≡ with_ends xs ++ with_ends ys
with_ends-append [] ys = refl
with_ends-append (x ∷ xs) ys =
    ap (λ r. x ++ 10 ∷ r) (with_ends-append xs ys) ∙ sym (with_ends-split x xs (with_ends ys))

-- a byte is no LF
abbrev IsNoEnd : ℕ → Type 0
IsNoEnd c = not (is_line_end c) ≡ true

-- bytes that begin with a line and its LF
pub record Cut (bytes : List ℕ) : Type 0 where
  pub line : List ℕ
  pub more : List ℕ
  pub whole : bytes ≡ line ++ 10 ∷ more
  pub one : IsOneLine line

cut-nil : (x : ℕ) (xs : List ℕ) → is_line_end x ≡ true → Cut (x ∷ xs)
cut-nil x xs h =
    record {
      line = [];
      more = xs;
      whole = ap (λ c. c ∷ xs)
          (eqb-true x 10 h);
      one = All-nil IsNoEnd;
    }

cut-cons : (x : ℕ) (xs : List ℕ) → is_line_end x ≡ false → Cut xs → Cut (x ∷ xs)
cut-cons x xs h cut =
    record {
      line = x ∷ cut.line;
      more = cut.more;
      whole = ap
          (λ r. x ∷ r) cut.whole;
      one = All-cons IsNoEnd x cut.line (not_from_false _ h) cut.one;
    }

pub cut_cases : (bytes : List ℕ) → IsOneLine bytes ⊎ Cut bytes
cut_cases [] = inl (All-nil IsNoEnd)
cut_cases (x ∷ xs) =
    elim (cases_Bool (is_line_end x)) [
      | inl h ↦ inr (cut-nil x xs h)
      | inr h ↦ elim (cut_cases xs) [
        | inl one ↦ inl (All-cons IsNoEnd x xs (not_from_false _ h) one)
        | inr cut ↦ inr (cut-cons x xs h cut)
      ]
    ]

has_bytes-some : (bytes : List ℕ) → bytes ≢ [] → has_bytes bytes ≡ true
has_bytes-some [] some = absurd (some refl)
has_bytes-some (x ∷ xs) some = refl

-- a rest that counts is a first line
rest_first : (before : ℕ) (bytes : List ℕ) (ended : Bool) → IsOneLine bytes
    → counts before bytes ended ≡ true
    → lines_from before bytes ended ≡ bytes ∷ []
rest_first before bytes ended one count =
    lines_from-one before bytes ended one ∙ cond-true _ (bytes ∷ []) [] count

-- bytes without an LF, after which nothing follows
pub lines_from-last : (before : ℕ) (bytes : List ℕ) → IsOneLine bytes → bytes ≢ []
    → lines_from before bytes true ≡ bytes ∷ []
lines_from-last before bytes one some =
    rest_first before bytes true one (and_from _ _ (has_bytes-some bytes some) refl)

pub lines_from-nil : (before : ℕ) (ended : Bool) → lines_from before [] ended ≡ []
lines_from-nil before ended = refl

-- past the last line, one byte more makes one more line
pub some_first : (before : ℕ) (bytes : List ℕ) (ended : Bool) → bytes ≢ [] → MOST_LINES ≤ before
    → FirstLine (lines_from before bytes ended)
some_first before bytes ended some many =
    elim (cut_cases bytes) [
      | inl one ↦ record {
        first = bytes;
        more = [];
        whole = rest_first before bytes ended one
            (and_from _ _ (has_bytes-some bytes some)
            (or_right _ _ (le-leb MOST_LINES before many)));
      }
      | inr cut ↦ record {
        first = cut.line;
        more = lines_from (before + 1) cut.more ended;
        whole = ap (λ s. lines_from before s ended) cut.whole
            ∙ lines_from-cons cut.line before cut.more ended cut.one;
      }
    ]

-- a line that is too long stays the first, whatever follows it
long_cut : (before : ℕ) (prefix more : List ℕ) (ended : Bool) → IsOneLine prefix
    → LONGEST_LINE < length prefix → Cut more
    → (lines : FirstLine (lines_from before (prefix ++ more) ended))
    × (LONGEST_LINE < length lines.first)
long_cut before prefix more ended one long cut =
    let whole : prefix ++ more ≡ (prefix ++ cut.line) ++ 10 ∷ cut.more =
    ap (λ r. prefix ++ r) cut.whole ∙ sym (append_assoc prefix cut.line (10 ∷ cut.more)) in (
      record {
        first = prefix ++ cut.line;
        more = lines_from (before + 1) cut.more ended;
        whole = ap (λ s. lines_from before s ended) whole
            ∙ lines_from-cons (prefix ++ cut.line) before cut.more ended
            (All-append IsNoEnd prefix cut.line one cut.one);
      },
      omega (arith, length-append prefix cut.line),
    )

some_from_length : (bytes : List ℕ) → 0 < length bytes → bytes ≢ []
some_from_length bytes h e = absurd (omega (arith, ap length e))

long_rest : (before : ℕ) (bytes : List ℕ) (ended : Bool) → IsOneLine bytes
    → LONGEST_LINE < length bytes
    → (lines : FirstLine (lines_from before bytes ended)) × (LONGEST_LINE < length lines.first)
long_rest before bytes ended one long = (
  record {
    first = bytes;
    more = [];
    whole = rest_first before bytes ended one
        (and_from _ _ (has_bytes-some bytes (some_from_length bytes (omega arith)))
        (or_left _ _ (or_right _ _ (lt-ltb LONGEST_LINE (length bytes) long))));
  },
  long,
)

-- where the prefix is too long, so is the first line
pub long_first : (before : ℕ) (bytes : List ℕ) (ended : Bool) → HasLongPrefix bytes
    → (lines : FirstLine (lines_from before bytes ended)) × (LONGEST_LINE < length lines.first)
long_first before bytes ended prefix =
    let long : LONGEST_LINE < length prefix.prefix = omega (arith, prefix.long) in
    let P : List ℕ → Type 0 = λ s. (lines : FirstLine (lines_from before s ended))
    × (LONGEST_LINE < length lines.first) in
    subst P (sym prefix.whole)
    (elim (cut_cases prefix.more) [
      | inl one ↦ long_rest before (prefix.prefix ++ prefix.more) ended
          (All-append IsNoEnd prefix.prefix prefix.more prefix.one one)
          (omega (arith, length-append prefix.prefix prefix.more))
      | inr cut ↦ long_cut before prefix.prefix prefix.more ended prefix.one long cut
    ])
