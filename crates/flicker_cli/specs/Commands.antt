-- The table of commands: what the words behind the program's name ask for.
use Rattle.std.specs.Prelude.{ℕ, List, [], ◌∷◌, Option, Some, None, codes, if◌then◌else◌}
use Rattle.std.specs.Str.{bytes_eq}
use Rattle.flicker_cli.specs.declared.words.Command.{Command}
use Rattle.flicker_cli.specs.declared.words.Command.TheVariants.{Run, Filter}
use Rattle.flk_filters.specs.declared.filter.Filter.TheVariants.{Asm, Dis, Measure, Verify}

-- the command of a word
abbrev pub word_command : List ℕ → Option Command
word_command word =
    if bytes_eq word (codes "run") then Some Run
    else if bytes_eq word (codes "asm") then Some (Filter Asm)
    else if bytes_eq word (codes "dis") then Some (Filter Dis)
    else if bytes_eq word (codes "measure") then Some (Filter Measure)
    else if bytes_eq word (codes "verify") then Some (Filter Verify)
    else None

-- each of these commands is one word
abbrev pub command : List (List ℕ) → Option Command
command [] = None
command (word ∷ []) = word_command word
command (word ∷ other ∷ more) = None
