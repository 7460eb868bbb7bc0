use Rattle.std.proofs.Common.{◌≡◌, length, drop}
use Rattle.script_text.specs.Arguments.{values_in}
use Rattle.script_text.proofs.ArgumentLemmas.{after}
use Rattle.script_text.proofs.argument.read_arguments.Given as goal

-- a word was taken for each kind before, and what was read and what is left come to what all words
-- come to
abbrev pub invariant-loop-kind : goal.invariant-loop-kind
invariant-loop-kind l = record {
  read : length l.arguments ≡ l.kind-index;
  left : l.words ≡ drop l.kind-index l.fn.words;
  all : after l.arguments (values_in (drop l.kind-index l.kinds) l.words)
      ≡ values_in l.kinds l.fn.words;
}
