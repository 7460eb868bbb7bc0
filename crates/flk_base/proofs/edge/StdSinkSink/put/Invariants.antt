use Rattle.std.proofs.Common.{◌≡◌, List, ℕ, ◌++◌, length}
use Rattle.std.specs.Io.KnownBytes.{Appends}
use Rattle.flk_base.proofs.edge.StdSinkSink.put.Given as goal

-- a prefix of the piece is written, and no fault has come
abbrev pub invariant-loop-rest : goal.invariant-loop-rest
invariant-loop-rest g l =
    (l.self-inside.faults ≡ l.fn.self.faults)
    × ((prefix : List ℕ) × (l.piece ≡ prefix ++ l.rest)
    × Appends (g.W.Write.contents l.fn.self.inner) (g.W.Write.contents l.self-inside.inner) prefix)

abbrev pub decreases-loop-rest : goal.decreases-loop-rest
decreases-loop-rest g l = length l.rest
