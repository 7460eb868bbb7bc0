use Rattle.pal_asm.proofs.TokenLemmas.{minus_word}
use Rattle.pal_asm.proofs.tokens.after_minus.Goals as goal

pub returns-in_default : goal.returns-in_default
returns-in_default c =
    minus_word c.args.text.now c.split_at.result.0.now c.split_at.result.1.now c.word_length.result
    c.word_length.ensures.value
    c.split_at.ensures.front c.split_at.ensures.back c.in_default.len_at_least
