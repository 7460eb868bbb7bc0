use Rattle.std.proofs.Common.{◌≡◌, ◌+◌, ◌-◌, ◌≤◌, length}
use Rattle.std.specs.Io.KnownBytes.{Consumes}
use Rattle.flk_filters.specs.declared.input.TheConstants.{READ_SIZE}
use Rattle.flk_filters.specs.Filters.{most_input}
use Rattle.flk_filters.specs.declared.input.TheConstants.{READ_SIZE}
use Rattle.flk_filters.proofs.input.read_input.Given as goal

-- what was taken is in the input, and there is room for the rest
abbrev pub invariant-reads : goal.invariant-reads
invariant-reads g l = record {
  consumed : Consumes (g.S.Source.left l.fn.source) (g.S.Source.left l.source) l.input.bytes;
  few : length l.input.bytes ≤ most_input + 1;
  room : most_input + 1 ≤ length l.input.bytes + l.input.spare;
  size : length l.buffer ≡ READ_SIZE;
  stays : g.S.Source.fault_count l.source ≡ g.S.Source.fault_count l.fn.source;
}

abbrev pub decreases-reads : goal.decreases-reads
decreases-reads g l = most_input + 1 - length l.input.bytes
