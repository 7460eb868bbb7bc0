-- A text is cut at its commas as its tokens are.
use Rattle.std.proofs.Common.{◌≡◌, ℕ, suc, Bool, true, false, not, List, [], ◌∷◌, length, take, drop, refl, sym, ap, ◌∙◌, subst, arith}
use Rattle.std.specs.Prelude.{◌==◌, if◌then◌else◌}
use Rattle.pal_asm.proofs.TokenLemmas.{word_first}
use Rattle.std.specs.List.{prefix_len, slice_split, onto_first}
use Rattle.std.proofs.lemmas.Bool.Decides.{nat_tests}
use Rattle.std.proofs.lemmas.List.{nil_from_length}
use Rattle.pal_asm.specs.Tokens.{Token, Word, Dashed, Open, Close, Plus, Minus, Comma, Colon, Other, is_space_or_tab, is_word_byte, mark_of, begins_word, longer, with_dash, tokens, is_comma}

abbrev pub before_comma : List ℕ → ℕ
before_comma xs = prefix_len (λ c. not (c == 44)) xs

-- the first piece of a list of tokens, and the others
abbrev Cut : List Token → List Token → List (List Token) → Type 0
Cut ts x more = slice_split is_comma ts ≡ x ∷ more

-- a longer first piece
onto : (t : Token) (ts x : List Token) (more : List (List Token)) → is_comma t ≡ false
    → Cut ts x more → Cut (t ∷ ts) (t ∷ x) more
onto t ts x more e h = rw e (rw h refl)

-- ---- what one more character makes of the first piece

onto_longer : (c : ℕ) (w : List ℕ) (pieces : List (List Token)) (x : List Token)
    (more : List (List Token)) → onto_first (Word w) pieces ≡ x ∷ more
    → onto_first (Word (c ∷ w)) pieces ≡ longer c x ∷ more
onto_longer c w [] x more h =
    let a : x ≡ Word w ∷ [] = cc in
    let b : more ≡ [] = cc in
    rw (a, b) refl
onto_longer c w (y ∷ ys) x more h =
    let a : x ≡ Word w ∷ y = cc in
    let b : more ≡ ys = cc in
    rw (a, b) refl

onto_dashed : (w : List ℕ) (pieces : List (List Token)) (x : List Token) (more : List (List Token))
    → onto_first (Word w) pieces ≡ x ∷ more
    → onto_first (Dashed w) pieces ≡ with_dash x ∷ more
onto_dashed w [] x more h =
    let a : x ≡ Word w ∷ [] = cc in
    let b : more ≡ [] = cc in
    rw (a, b) refl
onto_dashed w (y ∷ ys) x more h =
    let a : x ≡ Word w ∷ y = cc in
    let b : more ≡ ys = cc in
    rw (a, b) refl

longer_cut : (c : ℕ) (ts : List Token) (t : List ℕ) (rest x : List Token) (more : List (List Token))
    → ts ≡ Word t ∷ rest → Cut ts x more → Cut (longer c ts) (longer c x) more
longer_cut c ts t rest x more e h =
    let h' : onto_first (Word t) (slice_split is_comma rest) ≡ x ∷ more =
    subst (λ ys. slice_split is_comma ys ≡ x ∷ more) e h in
    rw e (onto_longer c t (slice_split is_comma rest) x more h')

dashed_cut : (ts : List Token) (t : List ℕ) (rest x : List Token) (more : List (List Token))
    → ts ≡ Word t ∷ rest → Cut ts x more → Cut (with_dash ts) (with_dash x) more
dashed_cut ts t rest x more e h =
    let h' : onto_first (Word t) (slice_split is_comma rest) ≡ x ∷ more =
    subst (λ ys. slice_split is_comma ys ≡ x ∷ more) e h in
    rw e (onto_dashed t (slice_split is_comma rest) x more h')

-- what a character makes of the tokens after it, by whether it belongs to words, is a space or a
-- tab, or a minus
abbrev pub added_by : Bool → Bool → Bool → ℕ → Bool → List Token → List Token
added_by w k m c begins ts =
    if w then (if begins then longer c ts else Word (c ∷ []) ∷ ts)
    else if k then ts
    else if m then (if begins then with_dash ts else Minus ∷ ts)
    else mark_of c ∷ ts

abbrev added : ℕ → Bool → List Token → List Token
added c begins ts = added_by (is_word_byte c) (is_space_or_tab c) (c == 45) c begins ts

mark_by : (a b c d e f : Bool) → e ≡ false
    → is_comma (if a then Open else if b then Close else if c then Plus else if d then Minus
    else if e then Comma else if f then Colon else Other) ≡ false
mark_by true b c d e f h = refl
mark_by false true c d e f h = refl
mark_by false false true d e f h = refl
mark_by false false false true e f h = refl
mark_by false false false false true f h = cc
mark_by false false false false false true h = refl
mark_by false false false false false false h = refl

no_comma : (c : ℕ) → (c == 44) ≡ false → is_comma (mark_of c) ≡ false
no_comma c h = mark_by (c == 91) (c == 93) (c == 43) (c == 45) (c == 44) (c == 58) h

abbrev HasWord : List Token → Type 0
HasWord ts = (t : List ℕ) × (rest : List Token) × (ts ≡ Word t ∷ rest)

added_cut : (w k m begins : Bool) (c : ℕ) (ts x : List Token) (more : List (List Token))
    → (c == 44) ≡ false → (begins ≡ true → HasWord ts) → Cut ts x more
    → Cut (added_by w k m c begins ts) (added_by w k m c begins x) more
added_cut true k m true c ts x more n word h = let f =
    word refl in longer_cut c ts f.0 f.1 x more f.2 h
added_cut true k m false c ts x more n word h = onto (Word (c ∷ [])) ts x more refl h
added_cut false true m begins c ts x more n word h = h
added_cut false false true true c ts x more n word h = let f =
    word refl in dashed_cut ts f.0 f.1 x more f.2 h
added_cut false false true false c ts x more n word h = onto Minus ts x more refl h
added_cut false false false begins c ts x more n word h =
    onto (mark_of c) ts x more (no_comma c n) h

has_word : (cs : List ℕ) → begins_word cs ≡ true → HasWord (tokens cs)
has_word [] h = cc
has_word (d ∷ ds) h = (_, _, word_first d ds h)

-- ---- the first piece of a text

abbrev prefix : List ℕ → List ℕ
prefix xs = take (before_comma xs) xs

-- the pieces after the first comma, which stands first
abbrev pub others : List ℕ → List (List Token)
others [] = []
others (c ∷ cs) = slice_split is_comma (tokens cs)

begins_by : (d : ℕ) (ds : List ℕ) (b : Bool) → (d == 44) ≡ b
    → begins_word (prefix (d ∷ ds)) ≡ begins_word (d ∷ ds)
begins_by d ds true e =
    let same : d ≡ 44 = grind (arith, nat_tests) in
    let none : before_comma (d ∷ ds) ≡ 0 = rw e refl in
    ap (λ n. begins_word (take n (d ∷ ds))) none ∙ sym (ap is_word_byte same)
begins_by d ds false e =
    let more : before_comma (d ∷ ds) ≡ suc (before_comma ds) = rw e (omega arith) in
    ap (λ n. begins_word (take n (d ∷ ds))) more

same_begins : (cs : List ℕ) → begins_word (prefix cs) ≡ begins_word cs
same_begins [] = refl
same_begins (d ∷ ds) = begins_by d ds (d == 44) refl

cut_by : (c : ℕ) (cs : List ℕ) (b : Bool) → (c == 44) ≡ b
    → Cut (tokens cs) (tokens (prefix cs)) (others (drop (before_comma cs) cs))
    → Cut (tokens (c ∷ cs)) (tokens (prefix (c ∷ cs)))
    (others (drop (before_comma (c ∷ cs)) (c ∷ cs)))
cut_by c cs true e h =
    let same : c ≡ 44 = grind (arith, nat_tests) in
    let none : before_comma (c ∷ cs) ≡ 0 = rw e refl in
    let here : Cut (tokens (c ∷ cs)) (tokens []) (slice_split is_comma (tokens cs)) =
    subst (λ x. Cut (tokens (x ∷ cs)) (tokens []) (slice_split is_comma (tokens cs)))
    (sym same) refl in
    subst (λ n. Cut (tokens (c ∷ cs)) (tokens (take n (c ∷ cs))) (others (drop n (c ∷ cs))))
    (sym none) here
cut_by c cs false e h =
    let more : before_comma (c ∷ cs) ≡ suc (before_comma cs) = rw e (omega arith) in
    let long : Cut (added c (begins_word cs) (tokens cs))
    (added c (begins_word cs) (tokens (prefix cs))) (others (drop (before_comma cs) cs)) =
    added_cut (is_word_byte c) (is_space_or_tab c) (c == 45) (begins_word cs) c (tokens cs)
    (tokens (prefix cs)) _ e (has_word cs) h in
    let here : Cut (tokens (c ∷ cs)) (tokens (c ∷ prefix cs)) (others (drop (before_comma cs) cs)) =
    subst (λ b. Cut (tokens (c ∷ cs)) (added c b (tokens (prefix cs)))
    (others (drop (before_comma cs) cs))) (sym (same_begins cs)) long in
    subst (λ n. Cut (tokens (c ∷ cs)) (tokens (take n (c ∷ cs))) (others (drop n (c ∷ cs))))
    (sym more) here

-- the tokens of a text are cut at the first comma as the text is
pub cut : (xs : List ℕ) → Cut (tokens xs) (tokens (take (before_comma xs) xs))
    (others (drop (before_comma xs) xs))
cut [] = refl
cut (c ∷ cs) = cut_by c cs (c == 44) refl (cut cs)

pub cut_none : (text prefix after : List ℕ) (n : ℕ) → n ≡ before_comma text → prefix ≡ take n text
    → after ≡ drop n text → length after ≡ 0
    → slice_split is_comma (tokens text) ≡ tokens prefix ∷ []
cut_none text prefix after n en ef eb h =
    let whole : slice_split is_comma (tokens text) ≡ tokens prefix ∷ others after =
    rw (ef, eb, en) (cut text) in
    whole ∙ ap (λ xs. tokens prefix ∷ others xs) (nil_from_length after h)

pub cut_some : (text prefix after rest : List ℕ) (c n : ℕ) → n ≡ before_comma text
    → prefix ≡ take n text → after ≡ drop n text → after ≡ c ∷ rest
    → slice_split is_comma (tokens text) ≡ tokens prefix ∷ slice_split is_comma (tokens rest)
cut_some text prefix after rest c n en ef eb h =
    let whole : slice_split is_comma (tokens text) ≡ tokens prefix ∷ others after =
    rw (ef, eb, en) (cut text) in
    whole ∙ ap (λ xs. tokens prefix ∷ others xs) h
