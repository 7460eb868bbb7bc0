-- Lines of `verify`, and the sessions that they describe.
use Rattle.std.proofs.Common.{◌≡◌, ℕ, ◌+◌, ◌≤◌, List, [], ◌∷◌, ◌++◌, length, take, sym, ap, ◌∙◌, arith}
use Rattle.std.specs.Prelude.{Some}
use Rattle.std.specs.List.{slice_get}
use Rattle.std.proofs.lemmas.List.{take_more}
use Rattle.std.proofs.lemmas.Option.{slice_get_within, get_or_from_slice_get}
use Rattle.tpm_state.specs.Chain.{value, extended_value}
use Rattle.tpm_state.specs.Sessions.{pal_text, running_chain}
use Rattle.quote_check.proofs.Chains.{running-more}
use Rattle.script_text.specs.Lines.{content, words}
use Rattle.script_text.specs.Verify.{Claim, claim_in, verify_reading}

-- the first texts, and one more
one_more : (texts : List (List ℕ)) (i : ℕ) (text : List ℕ) → slice_get texts i ≡ Some text
    → take (i + 1) texts ≡ take i texts ++ text ∷ []
one_more texts i text h =
    take_more texts i text (slice_get_within texts i text h)
    ∙ ap (λ x. take i texts ++ x ∷ []) (get_or_from_slice_get texts i text text h)

-- one text more of a session
pub extended_more : (image : List ℕ) (texts : List (List ℕ)) (i : ℕ) (text : List ℕ)
    → slice_get texts i ≡ Some text
    → extended_value (value (running_chain image (take i texts))) (pal_text text)
    ≡ value (running_chain image (take (i + 1) texts))
extended_more image texts i text h =
    running-more image text (take i texts)
    ∙ ap (λ (ts : List (List ℕ)). value (running_chain image ts)) (sym (one_more texts i text h))

-- words that claim something are at least seven
seven_words : (line : List (List ℕ)) (claim : Claim) → claim_in line ≡ Some claim
    → 7 ≤ length line
seven_words (a ∷ b ∷ c ∷ d ∷ e ∷ f ∷ g ∷ texts) claim h = omega arith
seven_words fewer claim h = absurd (cc h)

pub seven_of : (line : List ℕ) (claim : Claim) → verify_reading line ≡ Some claim
    → 7 ≤ length (words (content line))
seven_of line claim h = seven_words (words (content line)) claim h
