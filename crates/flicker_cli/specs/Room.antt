-- For which messages room is made.
use Rattle.std.specs.Prelude.{Bool, true, false}
use Rattle.flk_base.specs.declared.run_end.RunEnd.{RunEnd}
use Rattle.flk_base.specs.declared.run_end.RunEnd.TheVariants.{Bad}
use Rattle.flicker_cli.specs.declared.fault.Fault.{Fault}
use Rattle.flicker_cli.specs.declared.fault.Fault.TheVariants.{Script, Input}

-- the message has a number or a word of its own, so it wants room
abbrev pub wants_room : RunEnd Fault → Bool
wants_room (Bad (Script first)) = true
wants_room (Bad (Input bad)) = true
wants_room other = false
