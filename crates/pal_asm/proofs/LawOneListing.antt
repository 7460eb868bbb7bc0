-- Code has one listing: at each position one instruction begins, or none does.
use Rattle.std.proofs.Common.{◌≡◌, ℕ, ◌+◌, List, [], ◌∷◌, ◌++◌, length, take, drop, refl, sym, ap, ◌∙◌, subst, arith}
use Rattle.std.proofs.lemmas.List.{take-append-drop, length-take-le}
use Rattle.i386_profile.specs.declared.ins.Ins.{Ins}
use Rattle.i386_profile.specs.Spelling.{Begins}
use Rattle.i386_profile.proofs.Decoded.{only_one}
use Rattle.pal_asm.specs.Listing.{Met, Decoded, Lone, Meets, text_of}
use Rattle.pal_asm.specs.Laws.{OneListing}

-- one instruction begins a text, and has one length there
same_begun : (i j : Ins) (m n : ℕ) (bytes : List ℕ) → Begins i m bytes → Begins j n bytes
    → (i ≡ j) × (m ≡ n)
same_begun i j m n bytes g h =
    let both : take m bytes ++ drop m bytes ≡ take n bytes ++ drop n bytes =
    take-append-drop m bytes ∙ sym (take-append-drop n bytes) in
    let same =
    only_one i j (take m bytes) (take n bytes) (drop m bytes) (drop n bytes) g.1 h.1 both in
    (same.1, sym (length-take-le m bytes g.0) ∙ ap length same.0 ∙ length-take-le n bytes h.0)

same_decoded : (i j : Ins) (m n : ℕ) (a b : List Met) → i ≡ j → m ≡ n → a ≡ b
    → Decoded i m ∷ a ≡ Decoded j n ∷ b
same_decoded i j m n a b e f g = cc

same_lone : (x y : ℕ) (a b : List Met) → x ≡ y → a ≡ b → Lone x ∷ a ≡ Lone y ∷ b
same_lone x y a b e f = cc

-- what is met from a position on
same_met : (a b : List Met) (at : ℕ) (code : List ℕ) → Meets at a code → Meets at b code → a ≡ b
same_met [] [] at code g h = refl
same_met [] (Decoded j n ∷ b) at code g h = absurd (omega (arith, g, h.0))
same_met [] (Lone y ∷ b) at code g h = absurd (omega (arith, g, h.0))
same_met (Decoded i m ∷ a) [] at code g h = absurd (omega (arith, h, g.0))
same_met (Decoded i m ∷ a) (Decoded j n ∷ b) at code g h =
    let same = same_begun i j m n (drop at code) g.1 h.1 in
    let after : Meets (at + m) b code = subst (λ k. Meets (at + k) b code) (sym same.1) h.2 in
    same_decoded i j m n a b same.0 same.1 (same_met a b (at + m) code g.2 after)
same_met (Decoded i m ∷ a) (Lone y ∷ b) at code g h = absurd (h.1 i m g.1)
same_met (Lone x ∷ a) [] at code g h = absurd (omega (arith, h, g.0))
same_met (Lone x ∷ a) (Decoded j n ∷ b) at code g h = absurd (g.1 j n h.1)
same_met (Lone x ∷ a) (Lone y ∷ b) at code g h =
    same_lone x y a b (g.2 ∙ sym h.2) (same_met a b (at + 1) code g.3 h.3)

pub one_listing : OneListing
one_listing code a b (m, g, e) (n, h, f) = e ∙ ap (text_of 0) (same_met m n 0 code g h) ∙ sym f
