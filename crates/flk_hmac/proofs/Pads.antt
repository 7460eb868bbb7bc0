-- A block that is exclusive-ored byte by byte.
use Rattle.std.proofs.Common.{◌≡◌, ℕ, ◌+◌, ◌<◌, List, ◌++◌, length, map, take, drop, get_or, set}
use Rattle.std.proofs.Common.{bit_xor, arith, length-append, length-take, length-drop}
use Rattle.std.proofs.lemmas.List.{length-map, get_or_default}
use Rattle.std.proofs.lemmas.List.Edits.{map_over_more}

long : (f : ℕ → ℕ) (xs : List ℕ) (i : ℕ) → i < length xs
    → length (map f (take i xs) ++ drop i xs) ≡ length xs
long f xs i h =
    omega (
      arith,
      length-append (map f (take i xs)) (drop i xs),
      length-map (take i xs) f,
      length-take i xs,
      length-drop i xs,
    )

-- one byte more
pub pad_more : (pad : ℕ) (xs ys : List ℕ) (i : ℕ) → i < length xs
    → ys ≡ map (λ byte. bit_xor byte pad) (take i xs) ++ drop i xs
    → set ys i (bit_xor (get_or ys i 0) pad) ≡ map (λ byte. bit_xor byte pad) (take (i + 1) xs) ++
    drop (i + 1) xs
pad_more pad xs ys i h e =
    let inside : i < length ys = rw (e, long (λ byte. bit_xor byte pad) xs i h) h in
    map_over_more (λ byte. bit_xor byte pad) xs ys i (get_or ys i 0) h e
    (get_or_default ys i 0 (get_or ys i 0) inside)
