-- What is read from a word is what the word spells, and the other way round.
use Rattle.std.proofs.Common.{◌≡◌, inl, inr, ℕ, ◌+◌, ◌-◌, ◌*◌, ◌<◌, ◌==◌, Bool, true, false, List, [], ◌∷◌, ◌++◌, length, get_or, take, drop, refl, sym, ap, subst, ◌∙◌, arith, append_assoc}
use Rattle.std.specs.Prelude.{Option, Some, None, option_map, Result, Ok, Err, IfOk, nat_eq, codes, slice_index}
use Rattle.std.specs.Result.{result_ok}
use Rattle.std.specs.List.{All, slice_split, onto_first, concat, join_with_byte, starts_with}
use Rattle.std.proofs.lemmas.Bool.{cases_lt, eqb-true, false_from_ne_true}
use Rattle.std.proofs.lemmas.Bool.Decides.{Decides-eqb}
use Rattle.std.proofs.lemmas.Slice.Eq.{starts_is}
use Rattle.std.proofs.lemmas.List.{take_all, take_at, take_more, take-append-drop, drop_more, get_or_past, get_or_push, length_push, length-take-le}
use Rattle.std.proofs.lemmas.List.Elements.{All-nil, All-cons, All-head, All-tail, All-append, All-get_or, All-same}
use Rattle.std.proofs.lemmas.List.Sums.{AllPass-from_list_all}
use Rattle.std.proofs.lemmas.List.Splits.{slice_split_none, slice_split_at, length-slice_split, join_with_byte-slice_split}
use Rattle.hex.specs.Hex.{decode_of}
use Rattle.hex.proofs.HexLemmas.{decode_of-ok}
use Rattle.expr_text.specs.Numbers.{number_of}
use Rattle.expr_text.specs.Expressions.{Atom, Literal, Repeated, Named, Suffix, Cut, Flip, Term, is_name, SpellsAtom, SpellsSuffix, SpellsSuffixes, SpellsTerm, SpellsExpression}
use Rattle.expr_text.specs.ExpressionReading.{Reads, both, all_of, opens, parts, repeated_in, atom_in, bounds_in, cut_in, suffix_in, term_of_parts, term_in, expression_of}
use Rattle.expr_text.specs.declared.expression.Unread.{Unread}
use Rattle.expr_text.proofs.PlainLemmas.{Plain, IsPlain, is_plain, IsNameByte, chosen, digits_plain, is_name-parts, name_is_plain, number_plain, no_opening, no_plus, no_dot}

-- ---- what a step that gave a value was given

both_some : {A B C : Type 0} (f : A → B → C) (a : Option A) (b : Option B) (z : C)
    → both f a b ≡ Some z → (x : A) × (y : B) × (a ≡ Some x) × (b ≡ Some y) × (f x y ≡ z)
both_some f (Some x) (Some y) z h = (x, y, refl, refl, cc)
both_some f (Some x) None z h = absurd (cc)
both_some f None b z h = absurd (cc)

mapped : {A B : Type 0} (f : A → B) (a : Option A) (z : B) → option_map f a ≡ Some z
    → (x : A) × (a ≡ Some x) × (f x ≡ z)
mapped f (Some x) z h = (x, refl, cc)
mapped f None z h = absurd (cc)

ok_of : {A E : Type 0} (r : Result A E) (x : A) → result_ok r ≡ Some x → r ≡ Ok x
ok_of (Ok y) x h = let same : y ≡ x = cc in ap (λ z. Ok z) same
ok_of (Err e) x h = absurd (cc)

-- a first word, and the words after it
record FirstRead {A : Type 0} (read : List ℕ → Option A) (word : List ℕ) (words : List (List ℕ))
    (all : List A) : Type 0 where
  first : A
  rest : List A
  whole : first ∷ rest ≡ all
  here : read word ≡ Some first
  there : all_of read words ≡ Some rest

first_read : {A : Type 0} (read : List ℕ
    → Option A) (word : List ℕ) (words : List (List ℕ)) (all : List A)
    → all_of read (word ∷ words) ≡ Some all → FirstRead read word words all
first_read read word words all h =
    let b = both_some (λ x xs. x ∷ xs) (read word) (all_of read words) all h in
    record { first = b.0; rest = b.1; whole = b.4; here = b.2; there = b.3 }

begins : (word text : List ℕ) → starts_with nat_eq word text ≡ true
    → word ≡ text ++ drop (length text) word
begins word text h = (starts_is Decides-eqb word text true (sym h)).0 refl

-- ---- what is read is spelled so

-- a text that ends with this byte
last_split : (text : List ℕ) (y : ℕ) → get_or text (length text - 1) 0 ≡ y → 0 < y
    → text ≡ take (length text - 1) text ++ y ∷ []
last_split [] y h some = absurd (omega arith)
last_split (c ∷ cs) y h some =
    let n = length (c ∷ cs) - 1 in
    let more : take (n + 1) (c ∷ cs) ≡ take n (c ∷ cs)
    ++ get_or (c ∷ cs) n 0 ∷ [] = take_more (c ∷ cs) n 0 (omega arith) in
    sym (take_all (n + 1) (c ∷ cs) (omega arith)) ∙ more ∙ ap (λ b. take n (c ∷ cs) ++ b ∷ []) h

-- two Numbers between dots
record Bounds (pieces : List (List ℕ)) (s : Suffix) : Type 0 where
  a : List ℕ
  b : List ℕ
  from : ℕ
  to : ℕ
  whole : pieces ≡ a ∷ [] ∷ b ∷ []
  first : number_of a ≡ Some from
  second : number_of b ≡ Some to
  same : Cut from to ≡ s

bounds_found : (pieces : List (List ℕ)) (s : Suffix) → bounds_in pieces ≡ Some s → Bounds pieces s
bounds_found [] s h = absurd (cc)
bounds_found (a ∷ []) s h = absurd (cc)
bounds_found (a ∷ (x ∷ xs) ∷ rest) s h = absurd (cc)
bounds_found (a ∷ [] ∷ []) s h = absurd (cc)
bounds_found (a ∷ [] ∷ b ∷ c ∷ rest) s h = absurd (cc)
bounds_found (a ∷ [] ∷ b ∷ []) s h =
    let n = both_some Cut (number_of a) (number_of b) s h in
    record { a = a; b = b; from = n.0; to = n.1; whole = refl; first = n.2; second = n.3; same = n.4 }

cut_found : (text : List ℕ) (s : Suffix) → cut_in text ≡ Some s → SpellsSuffix s (91 ∷ text)
cut_found text s h =
    elim (chosen (slice_index text (length text - 1) == 93) _ None (Some s) h) [
      | inl took ↦
          let body = take (length text - 1) text in
          let n = bounds_found (slice_split (λ c. c == 46) body) s took.1 in
          let ends : text ≡ body ++ 93 ∷ [] = last_split text 93 (eqb-true _ 93 took.0)
          (omega arith) in
          let values_of : n.a ++ 46 ∷ 46 ∷ n.b ≡ body = ap (join_with_byte 46) (sym n.whole)
          ∙ join_with_byte-slice_split 46 body in
          let whole : text ≡ (n.a ++ codes "..") ++ n.b ++ codes "]" = ends
          ∙ ap (λ xs. xs ++ 93 ∷ []) (sym values_of
          ∙ sym (append_assoc n.a (codes "..") n.b)) in
          subst (λ t. SpellsSuffix t (91 ∷ text)) n.same
          (n.a, n.b, ap (λ xs. 91 ∷ xs) whole, n.first, n.second)
      | inr other ↦ absurd (let no = other.1 in cc)
    ]

suffix_found : (word : List ℕ) (s : Suffix) → suffix_in word ≡ Some s → SpellsSuffix s word
suffix_found [] s h = absurd (cc)
suffix_found (c ∷ text) s h =
    elim (chosen (c == 91) (cut_in text) _ (Some s) h) [
      | inl took ↦ subst (λ k. SpellsSuffix s (k ∷ text)) (sym (eqb-true c 91 took.0))
          (cut_found text s took.1)
      | inr other ↦
          elim (chosen (c == 126) (option_map Flip (number_of text)) None (Some s) other.1) [
            | inl took ↦
                let n = mapped Flip (number_of text) s took.1 in
                subst (λ k. SpellsSuffix s (k ∷ text)) (sym (eqb-true c 126 took.0))
                (subst (λ t. SpellsSuffix t (126 ∷ text)) n.2 (text, refl, n.1))
            | inr neither ↦ absurd (let no = neither.1 in cc)
          ]
    ]

suffixes_found : (words : List (List ℕ)) (ss : List Suffix) → all_of suffix_in words ≡ Some ss
    → SpellsSuffixes ss (concat words)
suffixes_found [] ss h = let none : [] ≡ ss = cc in subst (λ all. SpellsSuffixes all []) none refl
suffixes_found (word ∷ words) ss h =
    let f = first_read suffix_in word words ss h in
    subst (λ all. SpellsSuffixes all (word ++ concat words)) f.whole
    (word, concat words, refl, suffix_found word f.first f.here, suffixes_found words f.rest f.there)

-- one byte
one_byte : (bytes : List ℕ) → length bytes ≡ 1 → bytes ≡ get_or bytes 0 0 ∷ []
one_byte [] h = absurd (omega arith)
one_byte (b ∷ []) h = refl
one_byte (b ∷ c ∷ bytes) h = absurd (omega arith)

-- an index where a byte stands
beyond : (xs : List ℕ) (i y : ℕ) → get_or xs i 0 ≡ y → 0 < y → i < length xs
beyond xs i y e some =
    elim (cases_lt i (length xs)) [
      | inl low ↦ low
      | inr high ↦ let none = get_or_past xs i 0 high in
          absurd (omega arith)
    ]

repeated_found : (text : List ℕ) (a : Atom) → repeated_in text ≡ Some a
    → SpellsAtom a (codes "rep:" ++ text)
repeated_found text a h =
    elim (chosen (slice_index text 2 == 42) _ None (Some a) h) [
      | inl took ↦
          let star : get_or text 2 0 ≡ 42 = eqb-true (slice_index text 2) 42 took.0 in
          let long : 2 < length text = beyond text 2 42 star (omega arith) in
          let n = both_some (λ bytes count. Repeated (slice_index bytes 0) count)
          (result_ok (decode_of (take 2 text))) (number_of (drop 3 text)) a took.1 in
          let decoded = ok_of (decode_of (take 2 text)) n.0 n.2 in
          let two : length (take 2 text) ≡ 2 = length-take-le 2 text (omega arith) in
          let twice : length (take 2 text)
          ≡ 2 * length n.0 = (decode_of-ok (take 2 text) n.0 decoded).2 in
          let single = one_byte n.0 (omega arith) in
          let split : take 2 text ++ 42 ∷ drop 3 text ≡ text =
          ap (λ b. take 2 text ++ b ∷ drop 3 text) (sym star)
          ∙ ap (λ r. take 2 text ++ r) (sym (drop_more text 2 0 long))
          ∙ take-append-drop 2 text in
          subst (λ t. SpellsAtom t (codes "rep:" ++ text)) n.4 (
            take 2 text,
            drop 3 text,
            ap (λ xs. codes "rep:" ++ xs)
                (sym split ∙ sym (append_assoc (take 2 text) (codes "*") (drop 3 text))),
            decoded
                ∙ ap (λ bytes. Ok bytes) single,
            n.3,
          )
      | inr other ↦ absurd (let no = other.1 in cc)
    ]

atom_found : (word : List ℕ) (a : Atom) → atom_in word ≡ Some a → SpellsAtom a word
atom_found word a h =
    elim (chosen (starts_with nat_eq word (codes "x:")) _ _ (Some a) h) [
      | inl took ↦
          let n = mapped Literal (result_ok (decode_of (drop 2 word))) a took.1 in
          subst (λ t. SpellsAtom t word) n.2 (
            drop 2 word,
            begins word (codes "x:") took.0,
            ok_of
                (decode_of (drop 2 word)) n.0 n.1,
          )
      | inr other ↦
          elim (chosen (starts_with nat_eq word (codes "rep:")) _ _ (Some a) other.1) [
            | inl took ↦ subst (λ xs. SpellsAtom a xs) (sym (begins word (codes "rep:") took.0))
                (repeated_found (drop 4 word) a took.1)
            | inr neither ↦
                elim (chosen (is_name word) (Some (Named word)) None (Some a) neither.1) [
                  | inl took ↦ let same : Named word
                      ≡ a = let e = took.1 in cc in subst (λ t. SpellsAtom t word) same
                      (refl, took.0)
                  | inr none ↦ absurd (let no = none.1 in cc)
                ]
          ]
    ]

concat-onto_first : (c : ℕ) (pieces : List (List ℕ))
    → concat (onto_first c pieces) ≡ c ∷ concat pieces
concat-onto_first c [] = refl
concat-onto_first c (piece ∷ pieces) = refl

concat_step : (c : ℕ) (cs : List ℕ) → concat (parts cs) ≡ cs → (b : Bool) → opens c ≡ b
    → concat (parts (c ∷ cs)) ≡ c ∷ cs
concat_step c cs i true e = rw e (concat-onto_first c (parts cs) ∙ ap (λ xs. c ∷ xs) i)
concat_step c cs i false e = rw e (concat-onto_first c (parts cs) ∙ ap (λ xs. c ∷ xs) i)

-- the parts of a text are all of it
concat-parts : (text : List ℕ) → concat (parts text) ≡ text
concat-parts [] = refl
concat-parts (c ∷ cs) = concat_step c cs (concat-parts cs) (opens c) refl

term_of_found : (pieces : List (List ℕ)) (t : Term) → term_of_parts pieces ≡ Some t
    → SpellsTerm t (concat pieces)
term_of_found [] t h = absurd (cc)
term_of_found (first ∷ others) t h =
    let n = both_some (λ atom suffixes. record { atom = atom; suffixes = suffixes }) (atom_in first)
    (all_of suffix_in others) t h in
    subst (λ s. SpellsTerm s (first ++ concat others)) n.4
    (first, concat others, refl, atom_found first n.0 n.2, suffixes_found others n.1 n.3)

term_found : (text : List ℕ) (t : Term) → term_in text ≡ Some t → SpellsTerm t text
term_found text t h =
    subst (λ xs. SpellsTerm t xs) (concat-parts text) (term_of_found (parts text) t h)

pieces_found : (piece : List ℕ) (pieces : List (List ℕ)) (ts : List Term)
    → all_of term_in (piece ∷ pieces) ≡ Some ts
    → SpellsExpression ts (join_with_byte 43 (piece ∷ pieces))
pieces_found piece [] ts h =
    let f = first_read term_in piece [] ts h in
    let none : [] ≡ f.rest = let e = f.there in cc in
    let whole : f.first ∷ [] ≡ ts = ap (λ rest. f.first ∷ rest) none ∙ f.whole in
    subst (λ all. SpellsExpression all piece) whole (term_found piece f.first f.here)
pieces_found piece (next ∷ pieces) ts h =
    let f = first_read term_in piece (next ∷ pieces) ts h in
    let g = first_read term_in next pieces f.rest f.there in
    let rest = join_with_byte 43 (next ∷ pieces) in
    let whole : f.first ∷ g.first ∷ g.rest ≡ ts = ap (λ more. f.first ∷ more) g.whole ∙ f.whole in
    let read : all_of term_in (next ∷ pieces) ≡ Some (g.first ∷ g.rest) = f.there
    ∙ ap (λ more. Some more) (sym g.whole) in
    subst (λ all. SpellsExpression all (piece ++ 43 ∷ rest)) whole (
      piece,
      rest,
      sym (append_assoc piece
          (codes "+") rest),
      term_found piece f.first f.here,
      pieces_found next pieces
          (g.first ∷ g.rest) read,
    )

all_found : (pieces : List (List ℕ)) (ts : List Term) → 0 < length pieces
    → all_of term_in pieces ≡ Some ts → SpellsExpression ts (join_with_byte 43 pieces)
all_found [] ts some h = absurd (omega arith)
all_found (piece ∷ pieces) ts some h = pieces_found piece pieces ts h

pub found : (word : List ℕ) (ts : List Term) → expression_of word ≡ Some ts
    → SpellsExpression ts word
found word ts h =
    let pieces = slice_split (λ c. c == 43) word in
    subst (λ xs. SpellsExpression ts xs) (join_with_byte-slice_split 43 word)
    (all_found pieces ts (omega (arith, length-slice_split (λ c. c == 43) word)) h)

-- ---- what is spelled so is read

abbrev NoOpening : ℕ → Type 0
NoOpening c = opens c ≡ false

abbrev NoPlus : ℕ → Type 0
NoPlus c = (c == 43) ≡ false

-- a suffix as a word
record SuffixWord (s : Suffix) (word : List ℕ) : Type 0 where
  first : ℕ
  rest : List ℕ
  whole : word ≡ first ∷ rest
  opening : opens first ≡ true
  closed : All NoOpening rest
  one : All NoPlus (first ∷ rest)
  read : suffix_in (first ∷ rest) ≡ Some s

flip_again : (at : ℕ) (word : List ℕ) → SpellsSuffix (Flip at) word → SuffixWord (Flip at) word
flip_again at word h =
    let number = h.2 in
    let plain = number_plain h.0 at number in
    record {
      first = 126;
      rest = h.0;
      whole = h.1;
      opening = refl;
      closed = no_opening h.0 plain;
      one = All-cons NoPlus 126 h.0 refl (no_plus h.0 plain);
      read = rw number refl;
    }

-- a cut is read from its Numbers
cut_read : (a b : List ℕ) (from to : ℕ) → number_of a ≡ Some from → number_of b ≡ Some to
    → cut_in (a ++ codes ".." ++ b ++ codes "]") ≡ Some (Cut from to)
cut_read a b from to na nb =
    let body = a ++ codes ".." ++ b in
    let at : length (body ++ 93 ∷ []) - 1 ≡ length body = omega (arith, length_push body 93) in
    let last : slice_index (body ++ 93 ∷ []) (length body)
    ≡ 93 = get_or_push body 93 0 (length body) refl in
    let body_is : take (length body) (body ++ 93 ∷ [])
    ≡ body = take_at body (93 ∷ []) (length body) refl in
    let dot = λ (c : ℕ). c == 46 in
    let split : slice_split dot body ≡ a ∷ [] ∷ b ∷ [] =
    ap (slice_split dot) (append_assoc a (codes "..") b)
    ∙ slice_split_at dot a 46 (46 ∷ b) (no_dot a (number_plain a from na)) refl
    ∙ ap (λ r. a ∷ [] ∷ r) (slice_split_none dot b (no_dot b (number_plain b to nb))) in
    rw (at, last, body_is, split, na, nb) refl

cut_again : (from to : ℕ) (word : List ℕ) → SpellsSuffix (Cut from to) word
    → SuffixWord (Cut from to) word
cut_again from to word h =
    let a = h.0 in
    let b = h.1 in
    let rest = a ++ codes ".." ++ b ++ codes "]" in
    let plain_a = number_plain a from h.3 in
    let plain_b = number_plain b to h.4 in
    let closed : All NoOpening rest =
    All-append NoOpening (a ++ codes ".." ++ b) (codes "]")
    (All-append NoOpening (a ++ codes "..") b
    (All-append NoOpening a (codes "..") (no_opening a plain_a)
    (All-cons NoOpening 46 (46 ∷ []) refl (All-cons NoOpening 46 [] refl (All-nil NoOpening))))
    (no_opening b plain_b))
    (All-cons NoOpening 93 [] refl (All-nil NoOpening)) in
    let one : All NoPlus rest =
    All-append NoPlus (a ++ codes ".." ++ b) (codes "]")
    (All-append NoPlus (a ++ codes "..") b
    (All-append NoPlus a (codes "..") (no_plus a plain_a)
    (All-cons NoPlus 46 (46 ∷ []) refl (All-cons NoPlus 46 [] refl (All-nil NoPlus))))
    (no_plus b plain_b))
    (All-cons NoPlus 93 [] refl (All-nil NoPlus)) in
    record {
      first = 91;
      rest = rest;
      whole = h.2;
      opening = refl;
      closed = closed;
      one = All-cons NoPlus 91 rest refl one;
      read = cut_read a b from to h.3 h.4;
    }

suffix_again : (s : Suffix) (word : List ℕ) → SpellsSuffix s word → SuffixWord s word
suffix_again (Cut from to) word h = cut_again from to word h
suffix_again (Flip at) word h = flip_again at word h

-- a text without an opening before suffixes
parts_first : (xs ys : List ℕ) (words : List (List ℕ)) → All NoOpening xs → parts ys ≡ [] ∷ words
    → parts (xs ++ ys) ≡ xs ∷ words
parts_first [] ys words none h = h
parts_first (x ∷ xs) ys words none h =
    let closed : opens x ≡ false = All-head NoOpening x xs none in
    rw (closed, parts_first xs ys words (All-tail NoOpening x xs none) h) refl

-- suffixes as words
record SuffixesWord (ss : List Suffix) (word : List ℕ) : Type 0 where
  words : List (List ℕ)
  cut : parts word ≡ [] ∷ words
  read : all_of suffix_in words ≡ Some ss
  one : All NoPlus word

suffixes_again : (ss : List Suffix) (word : List ℕ) → SpellsSuffixes ss word → SuffixesWord ss word
suffixes_again [] word h =
    record {
      words = [];
      cut = rw h refl;
      read = refl;
      one = All-same NoPlus word [] h
          (All-nil NoPlus);
    }
suffixes_again (s ∷ ss) word h =
    let u = suffix_again s h.0 h.3 in
    let r = suffixes_again ss h.1 h.4 in
    let opening = u.opening in
    let others = parts_first u.rest h.1 r.words u.closed r.cut in
    let whole : word ≡ (u.first ∷ u.rest) ++ h.1 = h.2 ∙ ap (λ xs. xs ++ h.1) u.whole in
    let here = u.read in
    let there = r.read in
    record {
      words = (u.first ∷ u.rest) ∷ r.words;
      cut = ap parts whole ∙ rw (opening, others) refl;
      read = rw (here, there) refl;
      one = All-same NoPlus word _ whole (All-append NoPlus (u.first ∷ u.rest) h.1 u.one r.one);
    }

-- a byte of a Name
name_byte : (name text : List ℕ) (i : ℕ) → is_name name ≡ true → name ≡ text → i < length text
    → IsNameByte (get_or text i 0)
name_byte name text i h whole low =
    All-get_or IsNameByte text i 0 low
    (All-same IsNameByte text name (sym whole) (is_name-parts name h).0)

-- no Name begins like a literal or a repeated byte
no_literal : (name : List ℕ) → is_name name ≡ true → starts_with nat_eq name (codes "x:") ≡ false
no_literal name h =
    false_from_ne_true _ (λ e. let colon : IsNameByte 58 = name_byte name (codes "x:"
    ++ drop 2 name) 1 h (begins name (codes "x:") e) (omega arith) in cc)

no_repeated : (name : List ℕ) → is_name name ≡ true → starts_with nat_eq name (codes "rep:") ≡ false
no_repeated name h =
    false_from_ne_true _ (λ e. let colon : IsNameByte 58 = name_byte name (codes "rep:"
    ++ drop 4 name) 3 h (begins name (codes "rep:") e) (omega arith) in cc)

-- two digits
two_bytes : (digits : List ℕ) → length digits ≡ 2 → (x : ℕ) × (y : ℕ) × (digits ≡ x ∷ y ∷ [])
two_bytes [] h = absurd (omega arith)
two_bytes (x ∷ []) h = absurd (omega arith)
two_bytes (x ∷ y ∷ []) h = (x, y, refl)
two_bytes (x ∷ y ∷ z ∷ digits) h = absurd (omega arith)

repeated_read : (digits number : List ℕ) (byte count : ℕ) → decode_of digits ≡ Ok (byte ∷ [])
    → number_of number ≡ Some count
    → repeated_in (digits ++ codes "*" ++ number) ≡ Some (Repeated byte count)
repeated_read digits number byte count decoded counted =
    let twice : length digits ≡ 2 * length (byte ∷ []) =
    (decode_of-ok digits (byte ∷ []) decoded).2 in
    let d = two_bytes digits (omega arith) in
    let pair = d.2 in
    let known : result_ok (decode_of (d.0 ∷ d.1 ∷ []))
    ≡ Some (byte ∷ []) = ap (λ ds. result_ok (decode_of ds)) (sym pair)
    ∙ ap (λ r. result_ok r) decoded in
    rw pair (ap (λ r. both (λ bytes n. Repeated (slice_index bytes 0) n) r (number_of number)) known
    ∙ rw counted refl)

atom_again : (a : Atom) (word : List ℕ) → SpellsAtom a word → (atom_in word ≡ Some a) × Plain word
atom_again (Literal bytes) word h =
    let whole = h.1 in
    let decoded = h.2 in (
      rw (whole, decoded) refl,
      All-same IsPlain word _ whole
          (All-append IsPlain (codes "x:") h.0 (AllPass-from_list_all is_plain (codes "x:") refl)
          (digits_plain h.0 bytes decoded)),
    )
atom_again (Repeated byte count) word h =
    let digits = h.0 in
    let number = h.1 in
    let whole = h.2 in (
      rw whole (repeated_read digits number byte count h.3 h.4),
      All-same IsPlain word _ whole
          (All-append IsPlain (codes "rep:" ++ digits ++ codes "*") number
          (All-append IsPlain (codes "rep:" ++ digits) (codes "*")
          (All-append IsPlain (codes "rep:") digits
          (AllPass-from_list_all is_plain (codes "rep:") refl)
          (digits_plain digits (byte ∷ []) h.3))
          (AllPass-from_list_all is_plain (codes "*") refl))
          (number_plain number count h.4)),
    )
atom_again (Named name) word h =
    let whole = h.0 in
    let named = h.1 in
    let first = no_literal name named in
    let second = no_repeated name named in (
      rw (whole, first, second, named) refl,
      All-same IsPlain word name whole
          (name_is_plain name named),
    )

term_again : (t : Term) (word : List ℕ) → SpellsTerm t word
    → (term_in word ≡ Some t) × All NoPlus word
term_again t word h =
    let a = atom_again t.atom h.0 h.3 in
    let r = suffixes_again t.suffixes h.1 h.4 in
    let cut : parts word ≡ h.0 ∷ r.words = ap parts h.2
    ∙ parts_first h.0 h.1 r.words (no_opening h.0 a.1) r.cut in
    let here = a.0 in
    let there = r.read in (
      ap term_of_parts cut ∙ rw (here, there) refl,
      All-same NoPlus word _ h.2
          (All-append NoPlus h.0 h.1 (no_plus h.0 a.1) r.one),
    )

pub again : (ts : List Term) (word : List ℕ) → SpellsExpression ts word
    → expression_of word ≡ Some ts
again [] word h = absurd h
again (t ∷ []) word h =
    let r = term_again t word h in
    let read = r.0 in
    ap (all_of term_in) (slice_split_none (λ c. c == 43) word r.1) ∙ rw read refl
again (t ∷ next ∷ ts) word h =
    let r = term_again t h.0 h.3 in
    let read = r.0 in
    let rest = again (next ∷ ts) h.1 h.4 in
    ap expression_of (h.2 ∙ append_assoc h.0 (codes "+") h.1)
    ∙ ap (all_of term_in) (slice_split_at (λ c. c == 43) h.0 43 h.1 r.1 refl)
    ∙ rw (read, rest) refl

-- what is returned is spelled so
pub found_if : (r : Result (List Term) Unread) (word : List ℕ)
    → Reads (λ ts. ts) r (expression_of word) → IfOk r (λ ts. SpellsExpression ts word)
found_if (Ok ts) word h = found word ts h
found_if (Err fault) word h = tt
