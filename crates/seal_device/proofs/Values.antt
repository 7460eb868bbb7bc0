-- Where the strings that were hashed for them are clean, chains that show one value are one.
use Rattle.std.proofs.Common.{◌≡◌, ℕ, List, [], ◌∷◌, ◌++◌, length, get_or, refl, sym, ◌∙◌, Contains}
use Rattle.std.proofs.Common.{arith}
use Rattle.std.proofs.lemmas.List.Elements.{All-contains, All-contains_itself, Contains-append_left}
use Rattle.std.proofs.lemmas.List.Elements.{Contains-append_right}
use Rattle.sha1.specs.Sha1.{sha1}
use Rattle.flk_hmac.proofs.MacLengths.{length-sha1}
use Rattle.tpm_state.specs.Chain.{Start, Zeros, Ones, Chain, From, ◌▷◌, value, start_value}
use Rattle.seal_device.specs.Ledger.{Clean, strings_to_extend}
use Rattle.seal_device.specs.Ledger.{strings}
use Rattle.seal_device.proofs.Known.{Hashed}

-- a value has 20 bytes
pub length-value : (chain : Chain) → length (value chain) ≡ 20
length-value (From Zeros) = refl
length-value (From Ones) = refl
length-value (chain ▷ text) = length-sha1 (value chain ++ sha1 text)

-- lists that join to one are the same, if the first ones are as long as each other
same_parts : (a b x y : List ℕ) → length a ≡ length b → a ++ x ≡ b ++ y → (a ≡ b) × (x ≡ y)
same_parts [] [] x y long same = (refl, same)
same_parts [] (d ∷ b) x y long same = absurd (omega arith)
same_parts (c ∷ a) [] x y long same = absurd (omega arith)
same_parts (c ∷ a) (d ∷ b) x y long same =
    let heads : c ≡ d = cc in
    let tails : a ++ x ≡ b ++ y = cc in
    let rest = same_parts a b x y (omega arith) tails in
    let first : c ∷ a ≡ d ∷ b = cc (heads, rest.0) in
    (first, rest.1)

-- the last text of a chain was hashed, and so was the value before it with the text's digest
text_hashed : (h : List (List ℕ)) (chain : Chain) (text : List ℕ) → Hashed h (chain ▷ text)
    → Contains h text
text_hashed h chain text known =
    All-contains (Contains h) (strings (chain ▷ text)) text known
    (Contains-append_right (strings chain) (strings_to_extend (value chain) text) text
    (0, omega arith, refl))

joined_hashed : (h : List (List ℕ)) (chain : Chain) (text : List ℕ) → Hashed h (chain ▷ text) →
    Contains h (value chain ++ sha1 text)
joined_hashed h chain text known =
    All-contains (Contains h) (strings (chain ▷ text)) (value chain ++ sha1 text) known
    (Contains-append_right (strings chain) (strings_to_extend (value chain) text)
    (value chain ++ sha1 text)
    (1, omega arith, refl))

-- the strings of the chain before it were hashed
before_hashed : (h : List (List ℕ)) (chain : Chain) (text : List ℕ) → Hashed h (chain ▷ text)
    → Hashed h chain
before_hashed h chain text known = λ k d l.
    All-contains (Contains h) (strings (chain ▷ text)) (get_or (strings chain) k d) known
    (Contains-append_left (strings chain) (strings_to_extend (value chain) text)
    (get_or (strings chain) k d)
    (All-contains_itself (strings chain) k d l))

-- no extended chain shows a start's value
not_start : (h : List (List ℕ)) → Clean h → (start : Start) (chain : Chain) (text : List ℕ) →
    Hashed h (chain ▷ text) → start_value start ≡ value (chain ▷ text) → ⊥
not_start h clean start chain text known same =
    clean.no_start (value chain ++ sha1 text) (joined_hashed h chain text known) start (sym same)

-- two chains that show one value are one
pub apart : (h : List (List ℕ)) → Clean h → (one other : Chain) → Hashed h one → Hashed h other →
    value one ≡ value other → one ≡ other
apart h clean (From Zeros) (From Zeros) known too same = refl
apart h clean (From Ones) (From Ones) known too same = refl
apart h clean (From Zeros) (From Ones) known too same = cc
apart h clean (From Ones) (From Zeros) known too same = cc
apart h clean (From start) (chain ▷ text) known too same =
    absurd (not_start h clean start chain text too same)
apart h clean (chain ▷ text) (From start) known too same =
    absurd (not_start h clean start chain text known (sym same))
apart h clean (chain ▷ text) (chain' ▷ text') known too same =
    let joined : value chain ++ sha1 text ≡ value chain' ++ sha1 text' =
    clean.apart (value chain ++ sha1 text) (value chain' ++ sha1 text')
    (joined_hashed h chain text known) (joined_hashed h chain' text' too) same in
    let parts = same_parts (value chain) (value chain') (sha1 text) (sha1 text')
    (length-value chain ∙ sym (length-value chain')) joined in
    let texts : text ≡ text' =
    clean.apart text text' (text_hashed h chain text known) (text_hashed h chain' text' too)
    parts.1 in
    let chains : chain ≡ chain' =
    apart h clean chain chain' (before_hashed h chain text known) (before_hashed h chain' text' too)
    parts.0 in
    cc (texts, chains)
