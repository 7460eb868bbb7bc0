use Rattle.std.proofs.Common.{◌≤◌, length, refl, arith}
use Rattle.flk_filters.specs.Filters.{most_input}
use Rattle.flk_filters.proofs.AssemblyLemmas.{begins_well, not_too_long}
use Rattle.flk_filters.proofs.asm.assembly_text.Goals as goal

pub returns-in-Ok : goal.returns-in-Ok
returns-in-Ok c =
    let few : length c.args.input.now ≤ most_input = omega arith in (
      rw (not_too_long most_input c.args.input.now few) refl,
      begins_well c.args.input.now _ c.in-Ok.ensures.code,
    )
