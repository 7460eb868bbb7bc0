-- Taking pieces from a text, one after another.
use Rattle.std.proofs.Common.{◌≡◌, ◌⊎◌, inl, inr, ℕ, suc, ◌+◌, ◌==◌, ◌<◌, ◌≤◌, Bool, true, false, not, List, [], ◌∷◌, length, take, drop, refl, ap, ◌∙◌, arith}
use Rattle.std.specs.List.{prefix_len, slice_split}
use Rattle.expr_text.specs.ExpressionReading.{opens, parts, both, all_of, atom_in, suffix_in, term_in}
use Rattle.expr_text.specs.Pieces.{suffix_words}

-- how many bytes stand before the first that passes the test
abbrev pub before_first : (ℕ → Bool) → List ℕ → ℕ
before_first test xs = prefix_len (λ c. not (test c)) xs

-- the first piece, and the pieces after it, where there are any
abbrev pub FirstPiece : (ℕ → Bool) → List ℕ → ℕ → Type 0
FirstPiece test xs n =
    ((n < length xs) × (slice_split test xs ≡ take n xs ∷ slice_split test (drop (n + 1) xs)))
    ⊎ ((length xs ≤ n) × (slice_split test xs ≡ take n xs ∷ []))

piece_step : (test : ℕ → Bool) (c : ℕ) (cs : List ℕ) → FirstPiece test cs (before_first test cs)
    → (b : Bool) → test c ≡ b → FirstPiece test (c ∷ cs) (before_first test (c ∷ cs))
piece_step test c cs i true e = rw e (inl (omega arith, refl))
piece_step test c cs (inl more) false e =
    let s : 1 + before_first test cs ≡ suc (before_first test cs) = omega arith in
    let t : suc (before_first test cs) + 1 ≡ suc (before_first test cs + 1) = omega arith in
    rw (e, s) (inl (omega (arith, more.0), rw (t, more.1) refl))
piece_step test c cs (inr last) false e =
    let s : 1 + before_first test cs ≡ suc (before_first test cs) = omega arith in
    rw (e, s) (inr (omega (arith, last.0), rw last.1 refl))

pub first_piece : (test : ℕ → Bool) (xs : List ℕ) → FirstPiece test xs (before_first test xs)
first_piece test [] = inr (omega arith, refl)
first_piece test (c ∷ cs) = piece_step test c cs (first_piece test cs) (test c) refl

-- where there is a piece after the first
pub piece_more : (test : ℕ → Bool) (xs : List ℕ) (n : ℕ) → n ≡ before_first test xs → n < length xs
    → slice_split test xs ≡ take n xs ∷ slice_split test (drop (n + 1) xs)
piece_more test xs n e low =
    rw e (elim (first_piece test xs) [
      | inl more ↦ more.1
      | inr last ↦ absurd
          (omega (arith, e, last.0))
    ])

-- where there is none
pub piece_last : (test : ℕ → Bool) (xs : List ℕ) (n : ℕ) → n ≡ before_first test xs → length xs ≤ n
    → slice_split test xs ≡ take n xs ∷ []
piece_last test xs n e high =
    rw e (elim (first_piece test xs) [
      | inl more ↦ absurd
          (omega (arith, e, more.0))
      | inr last ↦ last.1
    ])

parts_step : (c : ℕ) (cs : List ℕ)
    → parts cs ≡ take (before_first opens cs) cs ∷ suffix_words (drop (before_first opens cs) cs)
    → (b : Bool) → opens c ≡ b
    → parts (c ∷ cs) ≡ take (before_first opens (c ∷ cs)) (c ∷ cs) ∷ suffix_words
    (drop (before_first opens (c ∷ cs)) (c ∷ cs))
parts_step c cs i true e = rw e refl
parts_step c cs i false e =
    let s : 1 + before_first opens cs ≡ suc (before_first opens cs) = omega arith in
    rw (e, s, i) refl

-- an atom, and the suffixes after it
pub parts_at : (xs : List ℕ)
    → parts xs ≡ take (before_first opens xs) xs ∷ suffix_words (drop (before_first opens xs) xs)
parts_at [] = refl
parts_at (c ∷ cs) = parts_step c cs (parts_at cs) (opens c) refl

-- the first suffix, and those after it
pub suffix_first : (xs rest : List ℕ) (m : ℕ) → (length xs == 0) ≡ false → rest ≡ drop 1 xs
    → m ≡ before_first opens rest
    → suffix_words xs ≡ take (1 + m) xs ∷ suffix_words (drop (1 + m) xs)
suffix_first [] rest m some er em = cc
suffix_first (c ∷ cs) rest m some er em =
    let s : 1 + m ≡ suc m = omega arith in
    let p : m ≡ before_first opens cs = em ∙ ap (before_first opens) er in
    rw (s, p, parts_at cs) refl

-- a term read from its parts
pub term_parts : (text first rest : List ℕ) (n : ℕ) → n ≡ before_first opens text
    → first ≡ take n text → rest ≡ drop n text
    → term_in text ≡ both (λ atom suffixes. record { atom = atom; suffixes = suffixes })
    (atom_in first) (all_of suffix_in (suffix_words rest))
term_parts text first rest n en ef er = rw (ef, er, en) (rw (parts_at text) refl)
