-- A part of a list, and a list with a piece written into it.
use Rattle.std.specs.Prelude.{ℕ, ◌+◌, List, ◌++◌, length, take, drop}

-- so many elements from an index on
abbrev pub part : {A : Type 0} → List A → ℕ → ℕ → List A
part list at count = take count (drop at list)

-- the list with a piece in place of as many elements from an index on
abbrev pub written : {A : Type 0} → List A → ℕ → List A → List A
written list at piece = take at list ++ piece ++ drop (at + length piece) list
