-- What clauses see of the crate's own steps.
use Rattle.std.specs.Prelude.{◌≡◌, ◌≢◌, ◌⊎◌, ℕ, ◌+◌, ◌≤◌, List, [], ◌++◌, length, Bool, true, false, Option, Some, None, Result, Ok, Err}
use Rattle.std.specs.Io.KnownBytes.{Appends, Consumes, IsAtEnd}
use Rattle.flk_base.specs.Buffer.{Buffer}
use Rattle.flk_base.specs.Checks.{◌>>=◌}
use Rattle.flk_base.specs.Known.{AppendsPrefix}
use Rattle.flk_base.specs.declared.run_end.RunEnd.{RunEnd}
use Rattle.flk_base.specs.declared.run_end.RunEnd.TheVariants.{Done, Cut}
use Rattle.flk_base.specs.declared.run_end.RunEnd.TheVariants as end
use Rattle.slb_image.specs.Faults.{image_fault}
use Rattle.flk_filters.specs.declared.filter.Filter.{Filter}
use Rattle.flk_filters.specs.declared.fault.BadInput.{BadInput}
use Rattle.flk_filters.specs.declared.fault.BadInput.TheVariants.{Denied}
use Rattle.flk_filters.specs.declared.fault.FilterFault.{FilterFault}
use Rattle.flk_filters.specs.declared.fault.FilterFault.TheVariants.{Bad, NoMemory}
use Rattle.flk_filters.specs.Filters.{most_input, denial, or_no_image, measures, fault_in, MayRunOut}
use Rattle.flk_filters.specs.Inputs.{Makes, IsTold}

-- the fault that an error stands for: none where memory ran out
abbrev pub input_fault : FilterFault → Option BadInput
input_fault (Bad bad) = Some bad
input_fault NoMemory = None

-- how many bytes there are
abbrev pub size_of : Result (List ℕ) BadInput → Result ℕ BadInput
size_of (Ok bytes) = Ok (length bytes)
size_of (Err bad) = Err bad

-- the lines of the bytes, where they are an image
abbrev pub image_lines : List ℕ → Result (List ℕ) BadInput
image_lines bytes = or_no_image bytes (image_fault bytes) >>= λ image. Ok (measures image)

-- what the filter makes of the input, or why it is not of its form; or memory ran out, where it may
abbrev pub GivesText : Filter → List ℕ → Result Buffer FilterFault → Type 0
GivesText which input (Ok text) = Makes which input text.bytes
GivesText which input (Err (Bad bad)) = fault_in which input ≡ Some bad
GivesText which input (Err NoMemory) = MayRunOut which input

-- a read gave a piece that has bytes, or the end
pub record TakesPiece (more : Bool) (old new : List ℕ)
    (source source' : Option (List ℕ)) : Type 0 where
  pub piece : List ℕ
  pub consumed : Consumes source source' piece
  pub bytes : new ≡ old ++ piece
  pub few : length new ≤ most_input + 1
  pub cases : ((more ≡ true) × (piece ≢ [])) ⊎ ((more ≡ false) × (piece ≡ []) × IsAtEnd source')

-- a text was written, or of one that has bytes not all
abbrev pub TextWritten : RunEnd BadInput → Option (List ℕ) → Option (List ℕ) → List ℕ → Type 0
TextWritten Done out out' text = Appends out out' text
TextWritten (Cut fault) out out' text = (text ≢ []) × AppendsPrefix out out' [] text
TextWritten other out out' text = ⊥

-- an input with this fault was refused: what was written of it, or of no not all
abbrev pub IsRefused : BadInput → RunEnd BadInput → Option (List ℕ) → Option (List ℕ) → Type 0
IsRefused bad (end.Bad other) out out' = (other ≡ bad) × IsTold bad out out'
IsRefused bad (Cut fault) out out' = (bad ≡ Denied) × AppendsPrefix out out' [] denial
IsRefused bad other out out' = ⊥
