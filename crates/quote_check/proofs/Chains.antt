-- Chains with texts after them.
use Rattle.std.proofs.Common.{◌≡◌, ℕ, List, [], ◌∷◌, ◌++◌, map, refl, sym, ap}
use Rattle.tpm_state.specs.Chain.{Chain, Zeros, From, ◌▷◌, value, extended_value}
use Rattle.tpm_state.specs.Sessions.{Session, pal_text, closing, with_texts, extended_by}
use Rattle.tpm_state.specs.Sessions.{running_chain, session_chain}

-- the value of a chain with texts after it
pub value-with_texts : (chain : Chain) (texts : List (List ℕ)) →
    extended_by (value chain) texts ≡ value (with_texts chain texts)
value-with_texts chain [] = refl
value-with_texts chain (text ∷ texts) = value-with_texts (chain ▷ text) texts

-- one text more
pub with_texts-more : (chain : Chain) (text : List ℕ) (texts : List (List ℕ)) →
    with_texts chain (map pal_text (texts ++ text ∷ []))
    ≡ with_texts chain (map pal_text texts) ▷ pal_text text
with_texts-more chain text [] = refl
with_texts-more chain text (first ∷ texts) = with_texts-more (chain ▷ pal_text first) text texts

-- the value while a session runs, once its code has extended the register by one text more
pub running-more : (image text : List ℕ) (texts : List (List ℕ)) →
    extended_value (value (running_chain image texts)) (pal_text text)
    ≡ value (running_chain image (texts ++ text ∷ []))
running-more image text texts =
    sym (ap value (with_texts-more (From Zeros ▷ image) text texts))

-- the value of a session's chain, from that of the image on
pub session-value : (s : Session) →
    extended_by (extended_by (value (From Zeros ▷ s.image)) (map pal_text s.texts))
    (closing s.inputs s.outputs s.end s.nonce)
    ≡ value (session_chain s)
session-value s =
    ap (λ (v : List ℕ). extended_by v (closing s.inputs s.outputs s.end s.nonce))
    (value-with_texts (From Zeros ▷ s.image) (map pal_text s.texts))
