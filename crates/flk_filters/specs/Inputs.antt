-- What a filter took from its source and wrote on its sink, for each way that it can end.
use Rattle.std.specs.Prelude.{◌≡◌, ◌≢◌, ◌⊎◌, ℕ, ◌+◌, ◌≤◌, List, [], length, Bool, true, Option, Some, None}
use Rattle.std.specs.Io.KnownBytes.{Appends}
use Rattle.flk_base.specs.Known.{AppendsPrefix}
use Rattle.flk_base.specs.Streams.{Intake, Output, Takes, TakenUntilFault}
use Rattle.flk_base.specs.declared.run_end.RunEnd.{RunEnd}
use Rattle.flk_base.specs.declared.run_end.RunEnd.TheVariants.{Done, Bad, ReadFault, Cut, NoMemory}
use Rattle.flk_filters.specs.declared.filter.Filter.{Filter}
use Rattle.flk_filters.specs.declared.fault.BadInput.{BadInput}
use Rattle.flk_filters.specs.declared.fault.BadInput.TheVariants.{Denied}
use Rattle.flk_filters.specs.Filters.{most_input, denial, fault_in, Filters, MayRunOut}

-- the bytes are all of the source, or one more than an input may have
pub record IsInput (taken : List ℕ) (ended : Bool) : Type 0 where
  pub whole : (ended ≡ true) ⊎ (length taken ≡ most_input + 1)
  pub few : length taken ≤ most_input + 1

-- the input was read
pub record TakesInput (source source' : Option (List ℕ)) (taken : List ℕ) : Type 0 where
  pub ended : Bool
  pub takes : Takes source source' taken ended
  pub input : IsInput taken ended

-- a read failed after these bytes, which are not yet more than an input may have
pub record TakesShort (source source' : Option (List ℕ)) (taken : List ℕ) : Type 0 where
  pub consumed : TakenUntilFault source source' taken
  pub few : length taken ≤ most_input

-- the filter makes this text of an input without a fault
pub record Makes (which : Filter) (taken text : List ℕ) : Type 0 where
  pub good : fault_in which taken ≡ None
  pub made : Filters which taken text

-- the filter writes no: the input is of its form, and claims what is not so
pub record Denies (which : Filter) (taken text : List ℕ) : Type 0 where
  pub bad : fault_in which taken ≡ Some Denied
  pub no : text ≡ denial

-- what was written of an input that is not of its form is nothing, and of one that claims what is
-- not so it is no
abbrev pub IsTold : BadInput → Option (List ℕ) → Option (List ℕ) → Type 0
IsTold Denied out out' = Appends out out' denial
IsTold other out out' = out' ≡ out

module _ (which : Filter) (source source' out out' : Option (List ℕ)) where
  -- the text of the input was written
  pub record Filtered : Type 0 where
    pub taken : List ℕ
    pub text : List ℕ
    pub takes : TakesInput source source' taken
    pub makes : Makes which taken text
    pub written : Appends out out' text

  -- of the text of the input, which has bytes, not all was written
  pub record TextCut : Type 0 where
    pub taken : List ℕ
    pub text : List ℕ
    pub takes : TakesInput source source' taken
    pub due : Makes which taken text ⊎ Denies which taken text
    pub some : text ≢ []
    pub written : AppendsPrefix out out' [] text

  -- the input has this fault, and no was written of it or nothing
  pub record Refused (bad : BadInput) : Type 0 where
    pub taken : List ℕ
    pub takes : TakesInput source source' taken
    pub fault : fault_in which taken ≡ Some bad
    pub told : IsTold bad out out'

  -- a read failed, and nothing was written
  pub record InputCut : Type 0 where
    pub taken : List ℕ
    pub takes : TakesShort source source' taken
    pub unwritten : out' ≡ out

  -- memory ran out over the input, and nothing was written
  pub record Unmade : Type 0 where
    pub taken : List ℕ
    pub takes : TakesInput source source' taken
    pub may : MayRunOut which taken
    pub unwritten : out' ≡ out

-- what a filter that ended so took and wrote; memory may also run out before anything is asked of
-- the source
abbrev pub FilterRan : Filter → RunEnd BadInput → Intake → Output → Type 0
FilterRan which Done s o = Filtered which s.old.left s.new.left o.old.contents o.new.contents
FilterRan which (Bad bad) s o =
    Refused which s.old.left s.new.left o.old.contents o.new.contents bad
FilterRan which ReadFault s o = InputCut which s.old.left s.new.left o.old.contents o.new.contents
FilterRan which (Cut fault) s o = TextCut which s.old.left s.new.left o.old.contents o.new.contents
FilterRan which NoMemory s o =
    (s.IsUntouched × (o.new.contents ≡ o.old.contents))
    ⊎ Unmade which s.old.left s.new.left o.old.contents o.new.contents
