use Rattle.std.proofs.Common.{ap, ◌∙◌}
use Rattle.std.proofs.lemmas.List.{take_rest}
use Rattle.slb_image.specs.Image.{Image}
use Rattle.slb_image.specs.Fields.{image_of}
use Rattle.slb_image.proofs.viewing.ImageView.code.Goals as goal

pub returns : goal.returns
unfolding image_of
returns c = take_rest c.self.inside.bytes.now 32 ∙ ap (λ (image : Image). image.code) c.self.view_is
