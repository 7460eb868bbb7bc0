-- What an image says is what its fields say.
use Rattle.std.proofs.Common.{◌≡◌, ◌∙◌, List, ℕ, ap}
use Rattle.slb_image.specs.Image.{Image, IsImageOf}
use Rattle.slb_image.specs.Fields.{image_of}
use Rattle.slb_image.proofs.Packed.{image_of-pack}

pub image_says : (image : Image) (bytes : List ℕ) → IsImageOf image bytes → image_of bytes ≡ image
image_says image bytes says = ap image_of says.packed ∙ image_of-pack image.entry image.budget image.job image.code says.fits
