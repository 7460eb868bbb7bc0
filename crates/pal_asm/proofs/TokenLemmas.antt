-- Tokens from the beginning of a text.
use Rattle.std.proofs.Common.{◌≡◌, ℕ, suc, ◌+◌, Bool, true, false, List, [], ◌∷◌, length, take, drop, refl, sym, ap, ◌∙◌, ◌≢◌, ◌≤◌, subst, arith}
use Rattle.std.specs.Prelude.{◌==◌}
use Rattle.std.specs.List.{prefix_len}
use Rattle.std.proofs.lemmas.Bool.Decides.{nat_tests}
use Rattle.std.proofs.lemmas.List.{nil_from_length}
use Rattle.pal_asm.specs.SeenTokens.{after_minus}
use Rattle.pal_asm.specs.Tokens.{Token, Word, Dashed, is_space_or_tab, is_word_byte, mark_of, longer, with_dash, tokens}

space_is_no_word : (c : ℕ) → is_space_or_tab c ≡ true → is_word_byte c ≡ false
space_is_no_word c e = grind (arith, nat_tests)

skip_step : (c : ℕ) (cs : List ℕ) → tokens (drop (prefix_len is_space_or_tab cs) cs) ≡ tokens cs
    → (b : Bool) → is_space_or_tab c ≡ b
    → tokens (drop (prefix_len is_space_or_tab (c ∷ cs)) (c ∷ cs)) ≡ tokens (c ∷ cs)
skip_step c cs ih true e =
    let s : 1 + prefix_len is_space_or_tab cs ≡ suc (prefix_len is_space_or_tab cs) = omega arith in
    let w : is_word_byte c ≡ false = space_is_no_word c e in
    rw (e, s, w) ih
skip_step c cs ih false e =
    let none : prefix_len is_space_or_tab (c ∷ cs) ≡ 0 = rw e refl in
    ap (λ n. tokens (drop n (c ∷ cs))) none

-- spaces and tabs before a token do not count
pub skip : (xs : List ℕ) → tokens (drop (prefix_len is_space_or_tab xs) xs) ≡ tokens xs
skip [] = refl
skip (c ∷ cs) = skip_step c cs (skip cs) (is_space_or_tab c) refl

abbrev WordFirst : List ℕ → Type 0
WordFirst xs =
    tokens xs ≡ Word (take (prefix_len is_word_byte xs) xs)
    ∷ tokens (drop (prefix_len is_word_byte xs) xs)

word_step : (c d : ℕ) (ds : List ℕ) → is_word_byte c ≡ true
    → (is_word_byte d ≡ true → WordFirst (d ∷ ds)) → (b : Bool) → is_word_byte d ≡ b
    → WordFirst (c ∷ d ∷ ds)
word_step c d ds e ih true eb =
    let n = prefix_len is_word_byte (d ∷ ds) in
    let s : 1 + n ≡ suc n = omega arith in
    let whole : tokens (c ∷ d ∷ ds) ≡ longer c (tokens (d ∷ ds)) = rw (e, eb) refl in
    let long : prefix_len is_word_byte (c ∷ d ∷ ds) ≡ suc n = rw e (omega arith) in
    let done : tokens (c ∷ d ∷ ds) ≡ Word (take (suc n) (c ∷ d ∷ ds))
    ∷ tokens (drop (suc n) (c ∷ d ∷ ds)) = whole ∙ ap (longer c) (ih eb) in
    subst (λ k. tokens (c ∷ d ∷ ds) ≡ Word (take k (c ∷ d ∷ ds)) ∷ tokens (drop k (c ∷ d ∷ ds)))
    (sym long) done
word_step c d ds e ih false eb =
    let one : prefix_len is_word_byte (c ∷ d ∷ ds) ≡ 1 = rw (e, eb) refl in
    let whole : tokens (c ∷ d ∷ ds) ≡ Word (c ∷ []) ∷ tokens (d ∷ ds) = rw e (rw eb refl) in
    subst (λ k. tokens (c ∷ d ∷ ds) ≡ Word (take k (c ∷ d ∷ ds)) ∷ tokens (drop k (c ∷ d ∷ ds)))
    (sym one) whole

-- a word goes as far as its characters do
pub word_first : (c : ℕ) (cs : List ℕ) → is_word_byte c ≡ true → WordFirst (c ∷ cs)
word_first c [] e = rw e refl
word_first c (d ∷ ds) e = word_step c d ds e (word_first d ds) (is_word_byte d) refl

-- the word of a text that begins with one
pub word_at : (c : ℕ) (text cs word rest : List ℕ) (n : ℕ) → text ≡ c ∷ cs → is_word_byte c ≡ true
    → n ≡ prefix_len is_word_byte text
    → word ≡ take n text → rest ≡ drop n text → tokens text ≡ Word word ∷ tokens rest
word_at c text cs word rest n et e en ew er =
    let whole : WordFirst text = subst WordFirst (sym et) (word_first c cs e) in
    rw (ew, er, en) whole

minus_step : (c : ℕ) (cs word rest : List ℕ) (n : ℕ) → (b : Bool) → is_word_byte c ≡ b
    → n ≡ prefix_len is_word_byte (c ∷ cs)
    → word ≡ take n (c ∷ cs) → rest ≡ drop n (c ∷ cs) → 1 ≤ length word
    → Dashed word ∷ tokens rest ≡ after_minus (c ∷ cs)
minus_step c cs word rest n true e en ew er h =
    let first : tokens (c ∷ cs) ≡ Word word ∷ tokens rest = rw (ew, er, en) (word_first c cs e) in
    let whole : after_minus (c ∷ cs) ≡ with_dash (tokens (c ∷ cs)) = rw e refl in
    sym (whole ∙ ap with_dash first)
minus_step c cs word rest n false e en ew er h =
    let none : prefix_len is_word_byte (c ∷ cs) ≡ 0 = rw e refl in
    let empty : length word ≡ 0 = ap length (ew ∙ ap (λ k. take k (c ∷ cs)) (en ∙ none)) in
    absurd (omega arith)

-- a minus and the word directly after it
pub minus_word : (text word rest : List ℕ) (n : ℕ) → n ≡ prefix_len is_word_byte text
    → word ≡ take n text → rest ≡ drop n text → 1 ≤ length word
    → Dashed word ∷ tokens rest ≡ after_minus text
minus_word [] word rest n en ew er h =
    let empty : length word ≡ 0 = ap length (ew ∙ ap (λ k. take k []) en) in
    absurd (omega arith)
minus_word (c ∷ cs) word rest n en ew er h =
    minus_step c cs word rest n (is_word_byte c) refl en ew er h

space_step : (c d : ℕ) (cs ds : List ℕ)
    → (drop (prefix_len is_space_or_tab cs) cs ≡ d ∷ ds → is_space_or_tab d ≡ false) → (b : Bool)
    → is_space_or_tab c ≡ b
    → drop (prefix_len is_space_or_tab (c ∷ cs)) (c ∷ cs) ≡ d ∷ ds → is_space_or_tab d ≡ false
space_step c d cs ds ih true e h =
    let more : prefix_len is_space_or_tab (c ∷ cs) ≡ suc (prefix_len is_space_or_tab cs) =
    rw e (omega arith) in
    ih (sym (ap (λ k. drop k (c ∷ cs)) more) ∙ h)
space_step c d cs ds ih false e h =
    let none : prefix_len is_space_or_tab (c ∷ cs) ≡ 0 = rw e refl in
    let whole : c ∷ cs ≡ d ∷ ds = sym (ap (λ k. drop k (c ∷ cs)) none) ∙ h in
    let same : c ≡ d = cc in
    subst (λ x. is_space_or_tab x ≡ false) same e

-- what stands after the spaces and tabs is none
pub not_space : (xs : List ℕ) (d : ℕ) (ds : List ℕ)
    → drop (prefix_len is_space_or_tab xs) xs ≡ d ∷ ds → is_space_or_tab d ≡ false
not_space [] d ds h = cc
not_space (c ∷ cs) d ds h = space_step c d cs ds (not_space cs d ds) (is_space_or_tab c) refl h

-- ---- the first token, where b spaces and tabs stand before it

without_spaces : (text ys : List ℕ) (b : ℕ) → b ≡ prefix_len is_space_or_tab text → ys ≡ drop b text
    → tokens text ≡ tokens ys
without_spaces text ys b eb ey =
    sym (skip text) ∙ ap (λ k. tokens (drop k text)) (sym eb) ∙ ap tokens (sym ey)

pub none_left : (text ys : List ℕ) (b : ℕ) → b ≡ prefix_len is_space_or_tab text → ys ≡ drop b text
    → length ys ≡ 0 → tokens text ≡ []
none_left text ys b eb ey h = without_spaces text ys b eb ey ∙ ap tokens (nil_from_length ys h)

pub word_left : (text ys cs word rest : List ℕ) (b c n : ℕ) → b ≡ prefix_len is_space_or_tab text
    → ys ≡ drop b text → ys ≡ c ∷ cs → is_word_byte c ≡ true
    → n ≡ prefix_len is_word_byte ys → word ≡ take n ys → rest ≡ drop n ys
    → tokens text ≡ Word word ∷ tokens rest
word_left text ys cs word rest b c n eb ey et e en ew er =
    without_spaces text ys b eb ey ∙ word_at c ys cs word rest n et e en ew er

pub minus_left : (text ys cs : List ℕ) (ts : List Token) (b c : ℕ)
    → b ≡ prefix_len is_space_or_tab text → ys ≡ drop b text → ys ≡ c ∷ cs → c ≡ 45
    → ts ≡ after_minus cs → tokens text ≡ ts
minus_left text ys cs ts b c eb ey et e h =
    let whole : tokens (45 ∷ cs) ≡ after_minus cs = refl in
    without_spaces text ys b eb ey ∙ ap tokens et ∙ ap (λ x. tokens (x ∷ cs)) e ∙ whole ∙ sym h

pub mark_left : (text ys cs : List ℕ) (b c : ℕ) → b ≡ prefix_len is_space_or_tab text
    → ys ≡ drop b text → ys ≡ c ∷ cs → is_word_byte c ≡ false → c ≢ 45
    → tokens text ≡ mark_of c ∷ tokens cs
mark_left text ys cs b c eb ey et e m =
    let bare : is_space_or_tab c ≡ false =
    not_space text c cs (sym (ap (λ k. drop k text) eb) ∙ sym ey ∙ et) in
    let other : (c == 45) ≡ false = grind (arith, nat_tests) in
    let whole : tokens (c ∷ cs) ≡ mark_of c ∷ tokens cs = rw e (rw bare (rw other refl)) in
    without_spaces text ys b eb ey ∙ ap tokens et ∙ whole
