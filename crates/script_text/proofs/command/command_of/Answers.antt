use Rattle.std.proofs.Common.{refl, sym, length, ◌∙◌}
use Rattle.script_text.specs.Reading.{fits, command_of}
use Rattle.script_text.specs.declared.command.TheConstants.{COMMANDS}
use Rattle.script_text.proofs.ReadingLemmas.{find_more, find_here, find_end}
use Rattle.script_text.proofs.command.command_of.Goals as goal

pub loop-command-init : goal.loop-command-init
unfolding command_of
loop-command-init c = refl

pub loop-command-preserved : goal.loop-command-preserved
loop-command-preserved c =
    let test = fits c.args.word.now (length c.args.others.now) in
    let i = c.loop-command.command-index in
    find_more test COMMANDS i _ c.loop-command-test.true (sym c.fits.ensures ∙ c.if-fits.false)
    ∙ c.loop-command.invariant

pub returns-then-fits : goal.returns-then-fits
returns-then-fits c =
    let test = fits c.args.word.now (length c.args.others.now) in
    let i = c.loop-command.command-index in
    sym (find_here test COMMANDS i _ c.loop-command-test.true (sym c.fits.ensures ∙ c.if-fits.true))
    ∙ c.loop-command.invariant

pub returns : goal.returns
returns c =
    let test = fits c.args.word.now (length c.args.others.now) in
    sym (find_end test COMMANDS c.loop-command.command-index c.loop-command-test.false)
    ∙ c.loop-command.invariant
