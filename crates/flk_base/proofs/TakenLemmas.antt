-- Which bytes were taken of a source, and whether they are all of it.
use Rattle.std.proofs.Common.{◌≡◌, ℕ, Bool, true, false, cond, List, [], ◌∷◌, ◌++◌, refl}
use Rattle.std.specs.Prelude.{Option, Some, None}
use Rattle.std.specs.Io.KnownBytes.{Consumes, IsAtEnd}
use Rattle.std.proofs.KnownBytes.{Consumes-trans}
use Rattle.flk_base.specs.Streams.{SaysEnd, TakenUntilFault}

-- whether nothing is left, as far as it is known
abbrev pub known_end : Option (List ℕ) → Bool
known_end None = false
known_end (Some []) = true
known_end (Some (c ∷ cs)) = false

-- the end was seen, or is known
abbrev pub the_end : Bool → Option (List ℕ) → Bool
the_end seen left = cond seen true (known_end left)

pub says_end : (seen : Bool) (left : Option (List ℕ)) → (seen ≡ true → IsAtEnd left)
    → SaysEnd (the_end seen left) left
says_end seen None h = tt
says_end true (Some rest) h = (λ e. h refl, λ e. refl)
says_end false (Some []) h = (λ e. refl, λ e. refl)
says_end false (Some (c ∷ cs)) h = (λ e. absurd (cc), λ e. absurd (cc))

pub seen_end : (seen : Bool) (left : Option (List ℕ)) → seen ≡ true → the_end seen left ≡ true
seen_end seen left e = rw e refl

-- the end itself
pub says_all : (left : Option (List ℕ)) → IsAtEnd left → SaysEnd true left
says_all None h = tt
says_all (Some rest) h = (λ e. h, λ e. refl)

-- bytes taken, and then more until a read failed
pub taken_then : (a b c : Option (List ℕ)) (xs ys : List ℕ) → Consumes a b xs
    → TakenUntilFault b c ys → TakenUntilFault a c (xs ++ ys)
taken_then a b c xs ys h k =
    record { left = k.left; consumed = Consumes-trans a b k.left xs ys h k.consumed; kept = k.kept }
