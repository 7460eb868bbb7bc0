use Rattle.std.proofs.lemmas.List.{take_rest}
use Rattle.expr_text.proofs.SpellingLemmas.{no_literal}
use Rattle.expr_text.proofs.spelling.literal_in.Goals as goal

pub returns-in-Err-Digit : goal.returns-in-Err-Digit
returns-in-Err-Digit c =
    let cause = rw c.in-Err-Digit.field-0-is at c.in-Err-Digit.ensures.err in
    no_literal c.args.word.now _ c.requires (take_rest c.args.word.now 2) cause.1
