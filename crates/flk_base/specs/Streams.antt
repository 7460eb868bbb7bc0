-- What clauses see of a source and of a sink over a call, and which bytes were taken of the source.
use Rattle.std.specs.Prelude.{◌≡◌, ◌↔◌, ℕ, Bool, true, List, [], ◌++◌, Option, Some, None, ⊤}
use Rattle.std.specs.Io.KnownBytes.{Consumes}
use Rattle.flk_base.specs.declared.streams.Source.{Ghosts as SourceGhosts}
use Rattle.flk_base.specs.declared.streams.Sink.{Ghosts as SinkGhosts}
use Rattle.flk_base.specs.Known.{KeepsWhereKnown}

-- a source: the bytes that are left, where they are known, and its count of faults
pub record Incoming : Type 0 where
  pub left : Option (List ℕ)
  pub faults : ℕ

-- a source as a call began and as it ended, and the fact that nothing was asked of it
pub record Intake : Type 1 where
  pub old : Incoming
  pub new : Incoming
  pub IsUntouched : Type 0

-- a sink: the bytes that it holds, where they are known, and its count of faults
pub record Outgoing : Type 0 where
  pub contents : Option (List ℕ)
  pub faults : ℕ

-- a sink as a call began and as it ended, and whether its puts may allocate
pub record Output : Type 0 where
  pub old : Outgoing
  pub new : Outgoing
  pub may_allocate : Bool

-- a source over a call, by what its trait makes known
abbrev pub intake : {S : Type 0} → SourceGhosts S → S → S → Intake
intake g old new = record {
  old = record { left = g.left old; faults = g.fault_count old };
  new = record { left = g.left new; faults = g.fault_count new };
  IsUntouched = new ≡ old;
}

-- a sink over a call, by what its trait makes known
abbrev pub output : {K : Type 0} → SinkGhosts K → K → K → Output
output g old new = record {
  old = record { contents = g.contents old; faults = g.fault_count old };
  new = record { contents = g.contents new; faults = g.fault_count new };
  may_allocate = g.may_allocate;
}

-- ---- what was taken

-- `ended` says exactly whether nothing is left of the source, where that is known
abbrev pub SaysEnd : Bool → Option (List ℕ) → Type 0
SaysEnd ended None = ⊤
SaysEnd ended (Some rest) = (ended ≡ true) ↔ (rest ≡ [])

-- these bytes were taken, no read failed, and `ended` says whether they are all
pub record Takes (before now : Option (List ℕ)) (taken : List ℕ) (ended : Bool) : Type 0 where
  pub consumed : Consumes before now taken
  pub end : SaysEnd ended now

-- these bytes were taken, and then a read failed: it took nothing, but what is left may be known no
-- more
pub record TakenUntilFault (before now : Option (List ℕ)) (taken : List ℕ) : Type 0 where
  pub left : Option (List ℕ)
  pub consumed : Consumes before left taken
  pub kept : KeepsWhereKnown left now

-- what is made of the bytes taken is this, and it is the same whatever follows them
pub record IsSettled {X : Type 0} (made_of : List ℕ → Bool → X) (taken : List ℕ) (ended : Bool)
    (made : X) : Type 0 where
  pub is : made_of taken ended ≡ made
  pub stays : (more : List ℕ) → (ended ≡ true → more ≡ []) → made_of (taken ++ more) true ≡ made
