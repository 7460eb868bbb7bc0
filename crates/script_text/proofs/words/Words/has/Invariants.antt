use Rattle.std.proofs.Common.{◌≡◌, ◌+◌, length}
use Rattle.script_text.proofs.words.Words.has.Given as goal

abbrev pub invariant-loop-i : goal.invariant-loop-i
invariant-loop-i l = length l.left + l._i ≡ length l.self
