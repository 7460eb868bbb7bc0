-- How the code holds a name.
use Rattle.std.specs.Prelude.{ℕ, ◌-◌, List, ◌++◌, length, replicate}
use Rattle.pal_asm.specs.declared.name.TheConstants.{LONGEST_NAME}
use Rattle.pal_asm.specs.declared.name.Name.TheInside.{Inside}

-- a text and its length, with zeros after it up to the most bytes of a name
abbrev pub fields_of : List ℕ → Inside
fields_of text =
    let zeros = replicate (LONGEST_NAME - length text) 0 in
    record { bytes = text ++ zeros; length = length text }
