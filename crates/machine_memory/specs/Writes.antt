-- A part of a list, and a list with a piece written into it.
use Rattle.std.specs.Prelude.{ℕ, ◌+◌, List, ◌++◌, length, take, drop}
use Rattle.std.specs.List.{refill}

-- so many elements from an index on
abbrev pub part : {A : Type 0} → List A → ℕ → ℕ → List A
part list at count = take count (drop at list)

-- the list with a piece in place of as many elements from an index on
abbrev pub written : {A : Type 0} → List A → ℕ → List A → List A
written list at piece = take at list ++ piece ++ drop (at + length piece) list

-- the list once so many elements from an index on were lent, and came back as these. They are as
-- many as were lent; a definition for all lists cuts what is too long, and leaves the others where
-- it is too short.
abbrev pub lent_back : {A : Type 0} → List A → ℕ → ℕ → List A → List A
lent_back list at count piece = written list at (refill count (part list at count) piece)
