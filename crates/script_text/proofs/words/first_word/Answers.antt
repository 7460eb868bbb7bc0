use Rattle.std.proofs.lemmas.List.{take_rest}
use Rattle.script_text.proofs.WordLemmas.{first_word_at}
use Rattle.script_text.proofs.words.first_word.Goals as goal

pub returns : goal.returns
returns c =
    first_word_at c.args.text.now _ _ _ c.spaces.result c.letters.result c.spaces.ensures.value
    (take_rest c.args.text.now c.spaces.result)
    c.letters.ensures.value c.split_at.ensures.front c.split_at.ensures.back
