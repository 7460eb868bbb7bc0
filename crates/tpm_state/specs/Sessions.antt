-- What register 17 goes through in a session, as one describes it who was not there.
use Rattle.std.specs.Prelude.{ℕ, List, [], ◌∷◌, ◌++◌, map, codes}
use Rattle.tpm_state.specs.Chain.{Zeros, Chain, From, ◌▷◌, extended_value}

-- a session: the image that was launched, the texts by which its code extended register 17, what
-- went in and what came out, the byte that says how it ended, and the nonce
pub record Session : Type 0 where
  pub image : List ℕ
  pub texts : List (List ℕ)
  pub inputs : List ℕ
  pub outputs : List ℕ
  pub end : ℕ
  pub nonce : List ℕ

-- the text of an extend by the session's code
abbrev pub pal_text : List ℕ → List ℕ
pal_text text = codes "pal" ++ text

-- the texts with which a session closes
abbrev pub closing : List ℕ → List ℕ → ℕ → List ℕ → List (List ℕ)
closing inputs outputs end nonce =
    (codes "in" ++ inputs)
    ∷ (codes "out" ++ outputs)
    ∷ (codes "end" ++ end ∷ nonce)
    ∷ codes "close"
    ∷ []

-- a chain with each of these texts after it, in their order
abbrev pub with_texts : Chain → List (List ℕ) → Chain
with_texts chain [] = chain
with_texts chain (text ∷ texts) = with_texts (chain ▷ text) texts

-- a value extended by each of these texts, in their order
abbrev pub extended_by : List ℕ → List (List ℕ) → List ℕ
extended_by value [] = value
extended_by value (text ∷ texts) = extended_by (extended_value value text) texts

-- the chain of register 17 while a session runs: it starts at zeros with the image, and the code
-- has extended it by these texts so far
abbrev pub running_chain : List ℕ → List (List ℕ) → Chain
running_chain image texts = with_texts (From Zeros ▷ image) (map pal_text texts)

-- the chain of register 17 once a session is closed
abbrev pub session_chain : Session → Chain
session_chain s =
    with_texts (running_chain s.image s.texts) (closing s.inputs s.outputs s.end s.nonce)
