use Rattle.std.proofs.Common.{◌≡◌, ◌++◌, drop}
use Rattle.std.specs.Vec.Iter.{into_iter_items, into_iter_len}
use Rattle.flicker_cli.proofs.start.words_of.Given as goal

-- what is left of the given words follows those that were kept
abbrev pub invariant-words : goal.invariant-words
invariant-words l = drop 1 (into_iter_items l.fn.given) ≡ l.words.items ++ into_iter_items l.left

abbrev pub decreases-words : goal.decreases-words
decreases-words l = into_iter_len l.left
