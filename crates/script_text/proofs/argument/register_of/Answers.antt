use Rattle.std.proofs.Common.{◌≡◌, sym, ◌∙◌, rules, tests, bytes_eq}
use Rattle.std.proofs.lemmas.Iterator.{YieldsList-from_slice}
use Rattle.std.proofs.lemmas.Iterator.Search.{position_from_yields_List}
use Rattle.script_text.specs.Grammar.{register_of}
use Rattle.script_text.proofs.argument.register_of.Goals as goal

pub returns-in-None : goal.returns-in-None
unfolding register_of
returns-in-None c =
    let whole = YieldsList-from_slice _ c.iter.ensures.rest in
    let found : c.position.result ≡ register_of c.args.word.now =
    position_from_yields_List (λ name. bytes_eq name.now c.args.word.now)
    _ _ c.position.result c.position.ensures.ran whole (λ x b q k. search (rules, tests)) in
    sym c.in-None.is ∙ found
