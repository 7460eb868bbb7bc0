use Rattle.std.proofs.Common.{◌≡◌, drop, length}
use Rattle.std.specs.List.{find}
use Rattle.script_text.specs.Reading.{fits, command_of}
use Rattle.script_text.specs.declared.command.TheConstants.{COMMANDS}
use Rattle.script_text.proofs.command.command_of.Given as goal

-- no command before fits
abbrev pub invariant-loop-command : goal.invariant-loop-command
invariant-loop-command l =
    find (fits l.word (length l.others)) (drop l.command-index COMMANDS) ≡ command_of l.word (length l.others)
