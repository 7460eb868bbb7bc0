-- A text is cut at its line ends.
use Rattle.std.proofs.Common.{◌≡◌, ℕ, suc, Bool, true, false, not, List, [], ◌∷◌, length, take, drop, refl, sym, ap, ◌∙◌, subst, arith}
use Rattle.std.specs.Prelude.{◌==◌}
use Rattle.std.specs.List.{prefix_len, onto_first}
use Rattle.std.proofs.lemmas.List.{nil_from_length}
use Rattle.pal_asm.specs.Lines.{lines}

abbrev pub line_length : List ℕ → ℕ
line_length xs = prefix_len (λ c. not (c == 10)) xs

-- the lines after the first line end, which stands first
abbrev pub others : List ℕ → List (List ℕ)
others [] = []
others (c ∷ cs) = lines cs

cut_by : (c : ℕ) (cs : List ℕ) (b : Bool) → (c == 10) ≡ b
    → lines cs ≡ take (line_length cs) cs ∷ others (drop (line_length cs) cs)
    → lines (c ∷ cs) ≡ take (line_length (c ∷ cs)) (c ∷ cs)
    ∷ others (drop (line_length (c ∷ cs)) (c ∷ cs))
cut_by c cs true e h =
    let none : line_length (c ∷ cs) ≡ 0 = rw e refl in
    let here : lines (c ∷ cs) ≡ [] ∷ lines cs = rw e refl in
    subst (λ n. lines (c ∷ cs) ≡ take n (c ∷ cs) ∷ others (drop n (c ∷ cs))) (sym none) here
cut_by c cs false e h =
    let more : line_length (c ∷ cs) ≡ suc (line_length cs) = rw e (omega arith) in
    let here : lines (c ∷ cs) ≡ onto_first c (lines cs) = rw e refl in
    subst (λ n. lines (c ∷ cs) ≡ take n (c ∷ cs) ∷ others (drop n (c ∷ cs))) (sym more) (here
    ∙ ap (onto_first c) h)

cut : (xs : List ℕ) → lines xs ≡ take (line_length xs) xs ∷ others (drop (line_length xs) xs)
cut [] = refl
cut (c ∷ cs) = cut_by c cs (c == 10) refl (cut cs)

pub last_line : (text prefix after : List ℕ) (n : ℕ) → n ≡ line_length text → prefix ≡ take n text
    → after ≡ drop n text → length after ≡ 0 → lines text ≡ prefix ∷ []
last_line text prefix after n en ef eb h =
    let whole : lines text ≡ prefix ∷ others after = rw (ef, eb, en) (cut text) in
    whole ∙ ap (λ xs. prefix ∷ others xs) (nil_from_length after h)

pub first_line : (text prefix after rest : List ℕ) (c n : ℕ) → n ≡ line_length text
    → prefix ≡ take n text → after ≡ drop n text → after ≡ c ∷ rest
    → lines text ≡ prefix ∷ lines rest
first_line text prefix after rest c n en ef eb h =
    let whole : lines text ≡ prefix ∷ others after = rw (ef, eb, en) (cut text) in
    whole ∙ ap (λ xs. prefix ∷ others xs) h
