-- What a source has left and what a sink holds, where it is known, which is to say visible to
-- clauses: of a real input or terminal nothing is known, and after a fault bytes that were known
-- may be known no more. std's `Appends` and `Consumes` speak of calls without a fault, after which
-- what was known is known still.
use Rattle.std.specs.Prelude.{◌≡◌, ◌≢◌, ℕ, List, [], ◌++◌, Option, Some, None, ⊤}

-- the bytes stay, where they are known before and after
abbrev pub KeepsWhereKnown : Option (List ℕ) → Option (List ℕ) → Type 0
KeepsWhereKnown None new = ⊤
KeepsWhereKnown (Some xs) None = ⊤
KeepsWhereKnown (Some xs) (Some ys) = ys ≡ xs

-- the bytes grow by these, where they are known before and after
abbrev pub AppendsWhereKnown : Option (List ℕ) → Option (List ℕ) → List ℕ → Type 0
AppendsWhereKnown None new bytes = ⊤
AppendsWhereKnown (Some xs) None bytes = ⊤
AppendsWhereKnown (Some xs) (Some ys) bytes = ys ≡ xs ++ bytes

-- the bytes grow by whole pieces, and then by a prefix of one more, which is not all of a piece
-- that has bytes
pub record AppendsPrefix (old new : Option (List ℕ)) (whole piece : List ℕ) : Type 0 where
  pub prefix : List ℕ
  pub missing : List ℕ
  pub is : piece ≡ prefix ++ missing
  pub proper : piece ≢ [] → missing ≢ []
  pub grown : AppendsWhereKnown old new (whole ++ prefix)

-- a reader or a writer of std, and how many of its calls failed
pub record Edge (T : Type 0) : Type 0 where
  pub inner : T
  pub faults : ℕ
