-- A listing grows by a line for each statement.
use Rattle.std.proofs.Common.{◌≡◌, ℕ, ◌+◌, ◌<◌, inl, inr, List, [], ◌∷◌, ◌++◌, length, refl, sym, ap, ◌∙◌, subst, append_assoc, append-nil}
use Rattle.std.specs.Prelude.{codes, decimal, slice_index}
use Rattle.pal_asm.specs.declared.names.Mnemonic.TheVariants as m
use Rattle.pal_asm.specs.Listing.{Met, Decoded, Lone, Meets, text_of, ins_text, text1, offset, Puts, Lists}

-- The text is the listing up to an offset: whatever is met from there on, all of the code is met.
abbrev pub ListsPrefix : ℕ → List ℕ → List ℕ → Type 0
ListsPrefix at code text =
    (rest : List Met) → Meets at rest code
    → (met : List Met) × Meets 0 met code × (text_of 0 met ≡ text ++ text_of at rest)

more_text : (old line more new all : List ℕ) → new ≡ old ++ line ++ codes "\n"
    → all ≡ old ++ (line ++ codes "\n" ++ more) → all ≡ new ++ more
more_text old line more new all en ea =
    ea ∙ simp append_assoc (sym (ap (λ xs. xs ++ more) en ∙ simp append_assoc))

pub grows : (at n : ℕ) (code old new : List ℕ) → at < length code → Puts at n code old new
    → ListsPrefix at code old → ListsPrefix (at + n) code new
grows at n code old new l (inl p) prefix rest h =
    let f = prefix (Decoded p.0 n ∷ rest) (l, p.1, h) in (
      f.0,
      f.1,
      more_text old (ins_text (offset (at + n)) p.0) (text_of (at + n) rest) new
          (text_of 0 f.0) p.2 f.2,
    )
grows at n code old new l (inr p) prefix rest h =
    let here : Meets (at + 1) rest code = subst (λ k. Meets (at + k) rest code) p.0 h in
    let f = prefix (Lone (slice_index code at) ∷ rest) (l, p.1, refl, here) in
    let text : text_of (at + 1) rest ≡ text_of (at + n) rest =
    ap (λ k. text_of (at + k) rest) (sym p.0) in (
      f.0,
      f.1,
      more_text old (text1 m.Byte (decimal (slice_index code at))) (text_of (at + 1) rest)
          new (text_of 0 f.0) p.2 f.2 ∙ ap (λ xs. new ++ xs) text,
    )

pub whole : (at : ℕ) (code text : List ℕ) → at ≡ length code → ListsPrefix at code text
    → Lists code text
whole at code text e prefix = let f = prefix [] e in (f.0, f.1, sym (f.2 ∙ append-nil text))
