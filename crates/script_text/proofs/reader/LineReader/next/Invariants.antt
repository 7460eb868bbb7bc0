use Rattle.std.proofs.Common.{◌≡◌}
use Rattle.script_text.proofs.ReaderLemmas.{Reading, MayRead, to_read}
use Rattle.script_text.proofs.reader.LineReader.next.Given as goal

abbrev pub invariant-loop-self : goal.invariant-loop-self
invariant-loop-self g l =
    Reading l.fn.self l.self (g.S.Source.left l.fn.source) (g.S.Source.left l.source)
    × MayRead l.fn.self l.self l.fn.source l.source
    × (g.S.Source.fault_count l.source ≡ g.S.Source.fault_count l.fn.source)

abbrev pub decreases-loop-self : goal.decreases-loop-self
decreases-loop-self g l = to_read l.self
