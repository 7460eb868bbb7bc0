-- Messages, piece by piece.
use Rattle.std.proofs.Common.{◌≡◌, ℕ, List, ◌++◌, ap, ◌∙◌, append_assoc}

-- three pieces, one behind the other
pub put_thrice : (a b c d p q q' r : List ℕ) → b ≡ a ++ p → c ≡ b ++ q → d ≡ c ++ r → q ≡ q' → d ≡ a ++ (p ++ q' ++ r)
put_thrice a b c d p q q' r first second third same =
    third ∙ ap (λ x. x ++ r) (second ∙ ap (λ x. b ++ x) same ∙ ap (λ x. x ++ q') first ∙ append_assoc a p q') ∙ append_assoc a (p ++ q') r
