use Rattle.std.proofs.Common.{ap, ◌∙◌}
use Rattle.std.specs.Prelude.{codes, decimal}
use Rattle.flicker_cli.proofs.MessageLemmas.{put_thrice}
use Rattle.flicker_cli.proofs.messages.put_image_message.Goals as goal

pub returns : goal.returns
returns c =
    let digits = c.as_bytes.ensures.value ∙ c.format.ensures.text ∙ ap (λ n. decimal n) c.fault_number.ensures in
    put_thrice _ _ _ _ (codes "flicker: not an image: ") c.as_bytes.result.now _ (codes "\n") c.put.ensures.bytes c.put-2.ensures.bytes c.put-3.ensures.bytes digits
