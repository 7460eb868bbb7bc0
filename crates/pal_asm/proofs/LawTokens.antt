-- Tokens of a text that words and marks make up.
use Rattle.std.proofs.Common.{◌≡◌, ℕ, Bool, true, false, List, [], ◌∷◌, ◌++◌, refl, ap, ◌∙◌}
use Rattle.std.specs.Prelude.{◌==◌, ◌&&◌, ◌||◌}
use Rattle.std.specs.List.{list_all, list_any, All, AllByRecursion}
use Rattle.std.proofs.lemmas.List.Elements.{All-from_recursion}
use Rattle.pal_asm.specs.Tokens.{Token, Word, Dashed, is_space_or_tab, is_word_byte, begins_word, longer, with_dash, tokens}
use Rattle.pal_asm.proofs.CommaLemmas.{added_by}

-- ---- tests on lists

pub and_left : (a b : Bool) → (a && b) ≡ true → a ≡ true
and_left true b h = refl
and_left false b h = h

pub and_right : (a b : Bool) → (a && b) ≡ true → b ≡ true
and_right true b h = h
and_right false b h = cc

or_left : (a b : Bool) → (a || b) ≡ false → a ≡ false
or_left true b h = h
or_left false b h = refl

or_right : (a b : Bool) → (a || b) ≡ false → b ≡ false
or_right true b h = cc
or_right false b h = h

each : {X : Type 0} (p : X → Bool) (xs : List X) → list_all p xs ≡ true
    → AllByRecursion (λ x. p x ≡ true) xs
each p [] h = tt
each p (x ∷ xs) h =
    (and_left (p x) (list_all p xs) h, each p xs (and_right (p x) (list_all p xs) h))

none : {X : Type 0} (p : X → Bool) (xs : List X) → list_any p xs ≡ false
    → AllByRecursion (λ x. p x ≡ false) xs
none p [] h = tt
none p (x ∷ xs) h = (or_left (p x) (list_any p xs) h, none p xs (or_right (p x) (list_any p xs) h))

pub all_from_test : {X : Type 0} (p : X → Bool) (xs : List X) → list_all p xs ≡ true
    → All (λ x. p x ≡ true) xs
all_from_test p xs h = All-from_recursion (λ x. p x ≡ true) xs (each p xs h)

pub none_from_test : {X : Type 0} (p : X → Bool) (xs : List X) → list_any p xs ≡ false
    → All (λ x. p x ≡ false) xs
none_from_test p xs h = All-from_recursion (λ x. p x ≡ false) xs (none p xs h)

-- ---- texts one after the other

abbrev HasWord : List Token → Type 0
HasWord ts = (t : List ℕ) × (rest : List Token) × (ts ≡ Word t ∷ rest)

added_append : (w k m begins : Bool) (c : ℕ) (ts us : List Token) → (begins ≡ true → HasWord ts)
    → added_by w k m c begins (ts ++ us) ≡ added_by w k m c begins ts ++ us
added_append true k m true c ts us word = let f = word refl in rw f.2 refl
added_append true k m false c ts us word = refl
added_append false true m begins c ts us word = refl
added_append false false true true c ts us word = let f = word refl in rw f.2 refl
added_append false false true false c ts us word = refl
added_append false false false begins c ts us word = refl

word_by : (c : ℕ) (cs : List ℕ) → (begins_word cs ≡ true → HasWord (tokens cs))
    → is_word_byte c ≡ true → (b : Bool) → begins_word cs ≡ b
    → HasWord (tokens (c ∷ cs))
word_by c cs ih e true eb = let f = ih eb in (c ∷ f.0, f.1, rw (e, eb, f.2) refl)
word_by c cs ih e false eb = (c ∷ [], tokens cs, rw (e, eb) refl)

-- a text that begins with a character of a word has a word first
has_word : (xs : List ℕ) → begins_word xs ≡ true → HasWord (tokens xs)
has_word [] h = cc
has_word (c ∷ cs) h = word_by c cs (has_word cs) h (begins_word cs) refl

begins_same : (x y : List ℕ) → begins_word y ≡ false → begins_word (x ++ y) ≡ begins_word x
begins_same [] y h = h
begins_same (c ∷ cs) y h = refl

-- the tokens of two texts stand one after the other, unless the second goes on with a word
pub tokens_append : (x y : List ℕ) → begins_word y ≡ false → tokens (x ++ y) ≡ tokens x ++ tokens y
tokens_append [] y h = refl
tokens_append (c ∷ cs) y h =
    ap (λ b. added_by (is_word_byte c) (is_space_or_tab c) (c == 45) c b (tokens (cs ++ y)))
    (begins_same cs y h)
    ∙ ap (λ ts. added_by (is_word_byte c) (is_space_or_tab c) (c == 45) c (begins_word cs) ts)
    (tokens_append cs y h)
    ∙ added_append (is_word_byte c) (is_space_or_tab c) (c == 45) (begins_word cs) c (tokens cs)
    (tokens y) (has_word cs)

-- ---- words

-- a word is at least one character of words, and no other
pub record IsWord (text : List ℕ) : Type 0 where
  pub begins : begins_word text ≡ true
  pub all : list_all is_word_byte text ≡ true

more_word : (c d : ℕ) (ds : List ℕ) → is_word_byte c ≡ true → is_word_byte d ≡ true
    → tokens (d ∷ ds) ≡ Word (d ∷ ds) ∷ []
    → tokens (c ∷ d ∷ ds) ≡ Word (c ∷ d ∷ ds) ∷ []
more_word c d ds e f h =
    let whole : tokens (c ∷ d ∷ ds) ≡ longer c (tokens (d ∷ ds)) = rw (e, f) refl in
    whole ∙ ap (longer c) h

word_alone : (c : ℕ) (cs : List ℕ) → list_all is_word_byte (c ∷ cs) ≡ true
    → tokens (c ∷ cs) ≡ Word (c ∷ cs) ∷ []
word_alone c [] h = let e = and_left (is_word_byte c) true h in rw e refl
word_alone c (d ∷ ds) h =
    let e = and_left (is_word_byte c) (list_all is_word_byte (d ∷ ds)) h in
    let others = and_right (is_word_byte c) (list_all is_word_byte (d ∷ ds)) h in
    more_word c d ds e (and_left (is_word_byte d) (list_all is_word_byte ds) others)
    (word_alone d ds others)

-- a word is one token
pub tokens_word : (text : List ℕ) → IsWord text → tokens text ≡ Word text ∷ []
tokens_word [] h = absurd (let e = h.begins in cc)
tokens_word (c ∷ cs) h = word_alone c cs h.all

-- a word and what does not go on with it
pub tokens_word_then : (text rest : List ℕ) → IsWord text → begins_word rest ≡ false
    → tokens (text ++ rest) ≡ Word text ∷ tokens rest
tokens_word_then text rest h b =
    tokens_append text rest b ∙ ap (λ ts. ts ++ tokens rest) (tokens_word text h)

-- a minus and the word directly after it
pub tokens_dashed : (text : List ℕ) → IsWord text → tokens (45 ∷ text) ≡ Dashed text ∷ []
tokens_dashed text h =
    let whole : tokens (45 ∷ text) ≡ with_dash (tokens text) = rw h.begins refl in
    whole ∙ ap with_dash (tokens_word text h)
