-- Steps of a put and of a read, on lists.
use Rattle.std.proofs.Common.{◌≡◌, ℕ, ◌+◌, ◌-◌, ◌<◌, ◌≤◌, List, [], ◌∷◌, ◌++◌, length, get_or, take}
use Rattle.std.proofs.Common.{drop, refl, sym, ap, ◌∙◌, append_assoc, arith, append-nil}
use Rattle.std.specs.Prelude.{Option, Some}
use Rattle.std.proofs.lemmas.List.{take_rest, take-append-drop, drop-drop, take_at, length-take-le}
use Rattle.std.proofs.lemmas.List.{length-drop, take_more, drop_all}
use Rattle.std.specs.Io.KnownBytes.{Appends}
use Rattle.std.proofs.KnownBytes.{Appends-trans}
use Rattle.flk_base.specs.Known.{AppendsPrefix}
use Rattle.hex.specs.Hex.{encode_with, encode_lower, lower_digits}

-- a prefix is written, and then n bytes of the rest
pub written_on : (a b c : Option (List ℕ)) (piece prefix rest : List ℕ) (n : ℕ)
    → piece ≡ prefix ++ rest
    → Appends a b prefix → Appends b c (take n rest)
    → (x : List ℕ) × (piece ≡ x ++ take (length rest - n) (drop n rest)) × Appends a c x
written_on a b c piece prefix rest n e p q = (
  prefix ++ take n rest,
  e ∙ ap (λ r. prefix ++ r) (sym (take-append-drop n rest))
      ∙ sym (append_assoc prefix (take n rest) (drop n rest))
      ∙ ap (λ r. (prefix ++ take n rest) ++ r) (sym (take_rest rest n)),
  Appends-trans a b c prefix (take n rest) p q,
)

-- n bytes are moved over the first ones of a buffer
pub moved_bytes : (xs ys buf piece : List ℕ) (at n : ℕ) → at + n ≤ length xs → ys ≡ xs
    → piece ≡ take (at + n - at) (drop at ys)
    → drop at xs ≡ take n (piece ++ drop n buf) ++ drop (at + n) xs
moved_bytes xs ys buf piece at n h e p =
    let m : at + n - at ≡ n = omega arith in
    let q : piece ≡ take n (drop at xs) = p ∙ ap (λ k. take k (drop at ys)) m
    ∙ ap (λ zs. take n (drop at zs)) e in
    let l : length (take n (drop at xs)) ≡ n =
    length-take-le n (drop at xs) (omega (arith, length-drop at xs)) in
    let f : take n (piece ++ drop n buf) ≡ take n (drop at xs) =
    ap (λ r. take n (r ++ drop n buf)) q ∙ take_at (take n (drop at xs)) (drop n buf) n l in
    sym (ap (λ r. r ++ drop (at + n) xs) f
    ∙ ap (λ r. take n (drop at xs) ++ r) (sym (drop-drop n at xs))
    ∙ take-append-drop n (drop at xs))

-- nothing is left after the last byte
pub nothing_left : (xs : List ℕ) (at n : ℕ) → length xs ≤ at → drop (at + n) xs ≡ []
nothing_left xs at n h = drop_all (at + n) xs (omega arith)

-- the digits of two lists
encode_with-append : (t xs ys : List ℕ)
    → encode_with t (xs ++ ys) ≡ encode_with t xs ++ encode_with t ys
unfolding encode_with
encode_with-append t [] ys = refl
encode_with-append t (x ∷ xs) ys = let e = encode_with-append t xs ys in cc

pub encode_lower-nil : encode_lower [] ≡ []
unfolding encode_with
encode_lower-nil = refl

-- the digits of one byte more
pub one_more : (base mid new xs : List ℕ) (i : ℕ) → i < length xs
    → mid ≡ base ++ encode_lower (take i xs) → new ≡ mid ++ encode_lower (get_or xs i 0 ∷ [])
    → new ≡ base ++ encode_lower (take (i + 1) xs)
one_more base mid new xs i h p q =
    q ∙ ap (λ r. r ++ encode_lower (get_or xs i 0 ∷ [])) p
    ∙ append_assoc base (encode_lower (take i xs)) (encode_lower (get_or xs i 0 ∷ []))
    ∙ ap (λ r. base ++ r) (sym (encode_with-append lower_digits (take i xs) (get_or xs i 0 ∷ []))
    ∙ ap encode_lower (sym (take_more xs i 0 h)))

-- a put that appends nothing
pub nothing_put : (contents new piece : List ℕ) → new ≡ contents
    → AppendsPrefix (Some contents) (Some new) [] piece
nothing_put contents new piece same =
    record {
      prefix = [];
      missing = piece;
      is = refl;
      proper = λ some. some;
      grown = same
          ∙ sym (append-nil contents);
    }
