-- A chain is that of one session: its texts say the image, and then by their first letters which are
-- the code's and which close the session.
use Rattle.std.proofs.Common.{◌≡◌, ℕ, List, [], ◌∷◌, ◌++◌, map, refl, sym, ap, ◌∙◌}
use Rattle.std.proofs.Common.{append_assoc, append-nil, arith}
use Rattle.std.specs.Prelude.{codes}
use Rattle.tpm_state.specs.Chain.{Chain, Zeros, From, ◌▷◌}
use Rattle.tpm_state.specs.Sessions.{Session, pal_text, closing, with_texts}
use Rattle.tpm_state.specs.Sessions.{running_chain, session_chain}

-- the texts of a chain, in their order
abbrev texts_of : Chain → List (List ℕ)
texts_of (From start) = []
texts_of (chain ▷ text) = texts_of chain ++ text ∷ []

-- those of a chain with texts after it
texts_of-with_texts : (chain : Chain) (texts : List (List ℕ)) →
    texts_of (with_texts chain texts) ≡ texts_of chain ++ texts
texts_of-with_texts chain [] = sym (append-nil (texts_of chain))
texts_of-with_texts chain (text ∷ texts) =
    texts_of-with_texts (chain ▷ text) texts ∙ append_assoc (texts_of chain) (text ∷ []) texts

-- what follows the image in a session's chain
abbrev after_image : List (List ℕ) → List ℕ → List ℕ → ℕ → List ℕ → List (List ℕ)
after_image texts inputs outputs end nonce =
    map pal_text texts ++ closing inputs outputs end nonce

-- the texts of a session's chain
session_texts : (s : Session) →
    texts_of (session_chain s) ≡ s.image ∷ after_image s.texts s.inputs s.outputs s.end s.nonce
session_texts s =
    texts_of-with_texts (running_chain s.image s.texts)
    (closing s.inputs s.outputs s.end s.nonce)
    ∙ ap (λ (ts : List (List ℕ)). ts ++ closing s.inputs s.outputs s.end s.nonce)
    (texts_of-with_texts (From Zeros ▷ s.image) (map pal_text s.texts))

-- the first letter of the first text
abbrev first_letter : List (List ℕ) → ℕ
first_letter [] = 0
first_letter ([] ∷ texts) = 0
first_letter ((letter ∷ text) ∷ texts) = letter

-- `in` and `pal` have different ones
other_letter : first_letter (codes "in" ∷ []) ≡ first_letter (codes "pal" ∷ []) → ⊥
other_letter is = omega (arith, is)

-- what follows the image says all but it
one_course : (ss : List (List ℕ)) (si so : List ℕ) (se : ℕ) (sn : List ℕ)
    (ts : List (List ℕ)) (ti to : List ℕ) (te : ℕ) (tn : List ℕ) →
    after_image ss si so se sn ≡ after_image ts ti to te tn →
    (ss ≡ ts) × (si ≡ ti) × (so ≡ to) × (se ≡ te) × (sn ≡ tn)
one_course [] si so se sn [] ti to te tn is = (refl, cc, cc, cc, cc)
one_course [] si so se sn (t ∷ ts) ti to te tn is = absurd (other_letter (ap first_letter is))
one_course (s ∷ ss) si so se sn [] ti to te tn is =
    absurd (other_letter (sym (ap first_letter is)))
one_course (s ∷ ss) si so se sn (t ∷ ts) ti to te tn is =
    let tail : after_image ss si so se sn ≡ after_image ts ti to te tn = cc in
    let first : s ≡ t = cc in
    let rest = one_course ss si so se sn ts ti to te tn tail in
    let more : s ∷ ss ≡ t ∷ ts = rw (first, rest.0) refl in
    (more, rest.1, rest.2, rest.3, rest.4)

-- the session that has these
session_of : List ℕ → List (List ℕ) → List ℕ → List ℕ → ℕ → List ℕ → Session
session_of image texts inputs outputs end nonce = record {
  image = image;
  texts = texts;
  inputs = inputs;
  outputs = outputs;
  end = end;
  nonce = nonce;
}

-- a chain is that of one session
pub one_session : (s t : Session) → session_chain s ≡ session_chain t → s ≡ t
unfolding session_of
one_session s t is =
    let both : s.image ∷ after_image s.texts s.inputs s.outputs s.end s.nonce
    ≡ t.image ∷ after_image t.texts t.inputs t.outputs t.end t.nonce =
    sym (session_texts s) ∙ ap texts_of is ∙ session_texts t in
    let image : s.image ≡ t.image = cc in
    let tail : after_image s.texts s.inputs s.outputs s.end s.nonce
    ≡ after_image t.texts t.inputs t.outputs t.end t.nonce = cc in
    let course = one_course s.texts s.inputs s.outputs s.end s.nonce
    t.texts t.inputs t.outputs t.end t.nonce tail in
    let same : session_of s.image s.texts s.inputs s.outputs s.end s.nonce
    ≡ session_of t.image t.texts t.inputs t.outputs t.end t.nonce =
    rw (image, course.0, course.1, course.2, course.3, course.4) refl in
    same
