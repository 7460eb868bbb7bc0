use Rattle.std.proofs.Common.{◌≡◌, map, ◌++◌, Ok}
use Rattle.std.specs.Prelude.{drop}
use Rattle.flk_base.specs.Checks.{◌>>=◌}
use Rattle.flk_run.specs.Tasks.{values_of}
use Rattle.flk_run.proofs.checks.worths.Given as goal

abbrev pub invariant-loop-i : goal.invariant-loop-i
invariant-loop-i l =
    values_of l.expressions l.vars.table
    ≡ (values_of (drop l.i l.expressions) l.vars.table
    >>= λ values. Ok (map (λ value. value.bytes) l.values.items ++ values))
