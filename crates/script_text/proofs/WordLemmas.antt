-- Taking a text's words, one after another.
use Rattle.std.proofs.Common.{◌≡◌, ℕ, suc, ◌+◌, Bool, true, false, List, [], ◌∷◌, take, drop, refl, sym, ap, ◌∙◌, subst, arith}
use Rattle.std.specs.Prelude.{filter}
use Rattle.std.specs.List.{prefix_len, slice_split}
use Rattle.expr_text.proofs.PieceLemmas.{before_first}
use Rattle.script_text.specs.Lines.{is_space_or_tab, has_bytes, words}
use Rattle.script_text.specs.Words.{IsFirstWord}

-- the first piece, and the pieces after it
pub record Cuts (test : ℕ → Bool) (xs : List ℕ) : Type 0 where
  pub more : List (List ℕ)
  pub here : slice_split test xs ≡ take (before_first test xs) xs ∷ more
  pub there : slice_split test (drop (before_first test xs) xs) ≡ [] ∷ more

cuts_step : (test : ℕ → Bool) (c : ℕ) (cs : List ℕ) → Cuts test cs → (b : Bool) → test c ≡ b
    → Cuts test (c ∷ cs)
cuts_step test c cs i true e =
    record { more = slice_split test cs; here = rw e refl; there = rw e (rw e refl) }
cuts_step test c cs i false e =
    let s : 1 + before_first test cs ≡ suc (before_first test cs) = omega arith in
    record { more = i.more; here = rw (e, s, i.here) refl; there = rw (e, s, i.there) refl }

pub cuts : (test : ℕ → Bool) (xs : List ℕ) → Cuts test xs
cuts test [] = record { more = []; here = refl; there = refl }
cuts test (c ∷ cs) = cuts_step test c cs (cuts test cs) (test c) refl

abbrev skipped : List ℕ → List ℕ
skipped xs = drop (prefix_len is_space_or_tab xs) xs

abbrev FirstWordOf : List ℕ → List ℕ → Type 0
FirstWordOf text ys =
    IsFirstWord text (take (before_first is_space_or_tab ys) ys)
    (drop (before_first is_space_or_tab ys) ys)

same_words : (a b word rest : List ℕ) → words b ≡ words a → IsFirstWord a word rest
    → IsFirstWord b word rest
same_words a b [] rest e h = (e ∙ h.0, h.1)
same_words a b (c ∷ cs) rest e h = e ∙ h

first_step : (c : ℕ) (cs : List ℕ) → FirstWordOf cs (skipped cs) → (b : Bool)
    → is_space_or_tab c ≡ b → FirstWordOf (c ∷ cs) (skipped (c ∷ cs))
first_step c cs i true e =
    let s : 1 + prefix_len is_space_or_tab cs ≡ suc (prefix_len is_space_or_tab cs) = omega arith in
    rw (e, s) (same_words cs (c ∷ cs) _ _ (rw e refl) i)
first_step c cs i false e =
    let m = before_first is_space_or_tab cs in
    let k = cuts is_space_or_tab cs in
    let s : before_first is_space_or_tab (c ∷ cs) ≡ suc m = rw e (omega arith) in
    let whole : words (c ∷ cs) ≡ (c ∷ take m cs) ∷ filter has_bytes k.more = rw (e, k.here) refl in
    let rest : words (drop m cs) ≡ filter has_bytes k.more = ap (filter has_bytes) k.there in
    let same : skipped (c ∷ cs) ≡ c ∷ cs = rw e refl in
    subst (λ ys. FirstWordOf (c ∷ cs) ys) (sym same)
    (subst (λ n. IsFirstWord (c ∷ cs) (take n (c ∷ cs)) (drop n (c ∷ cs))) (sym s)
    (whole ∙ ap (λ ws. (c ∷ take m cs) ∷ ws) (sym rest)))

pub first_word : (text : List ℕ) → FirstWordOf text (skipped text)
first_word [] = (refl, refl)
first_word (c ∷ cs) = first_step c cs (first_word cs) (is_space_or_tab c) refl

pub first_word_at : (text ys word rest : List ℕ) (b n : ℕ) → b ≡ prefix_len is_space_or_tab text
    → ys ≡ drop b text → n ≡ before_first is_space_or_tab ys → word ≡ take n ys → rest ≡ drop n ys
    → IsFirstWord text word rest
first_word_at text ys word rest b n eb ey en ew er =
    let e : ys ≡ skipped text = ey ∙ ap (λ k. drop k text) eb in
    rw (ew, er, en, e) (first_word text)
