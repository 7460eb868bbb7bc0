use Rattle.std.proofs.Common.{◌≡◌, ◌+◌, length, ap, arith}
use Rattle.flk_filters.specs.Filters.{most_input}
use Rattle.flk_filters.proofs.InputLemmas.{takes_long}
use Rattle.flk_filters.proofs.input.read_input.Goals as goal

pub returns-clause-ok : goal.returns-clause-ok
returns-clause-ok g c =
    let long : length c.reads.input.bytes ≡ most_input + 1 =
    (let n = ap length c.as_slice.ensures in let few = c.reads.invariant.few in let more =
    c.reads-test.false in omega arith) in
    takes_long _ _ c.reads.input.bytes c.reads.invariant.consumed long
