use Rattle.std.specs.FinMap.{empty}
use Rattle.machine_memory.specs.HostMemory.{is_untaken}
use Rattle.flk_run.specs.Parts.{platform_of, known_if}
use Rattle.flicker_cli.proofs.start.begin.Goals as goal

pub returns-in-Ok-clause-answered : goal.returns-in-Ok-clause-answered
returns-in-Ok-clause-answered g c =
    let answered = rw (c.new-input.ensures, c.new-out.ensures, c.new-err.ensures, c.in-Ok.ensures.blank) at c.flicker-finished.ensures.answered in
    record { left = known_if (is_untaken c.in-Ok.board.memory) (platform_of c.flicker-finished.result.board c.flicker-finished.result.spans c.flicker-finished.result.disk empty); answered = rw c.exit.ensures answered }
