-- Reading the fields of an image gives back what it says.
use Rattle.std.proofs.Common.{◌≡◌, ℕ, ◌+◌, ◌<◌, ◌≤◌, ◌^◌, ◌++◌, Bool, true, false, eqb, List, []}
use Rattle.std.proofs.Common.{length, length-append, refl, sym, ap, ◌∙◌, arith}
use Rattle.byteorder.specs.Numbers.{little_number-reads_back}
use Rattle.slb_image.specs.Image.{Image, front, pack, FitsImage, IsImageOf}
use Rattle.slb_image.specs.Fields.{entry_field, length_field, flags_field, budget_field, image_of}
use Rattle.slb_image.proofs.Checked.{Passes}

-- each number is read as it was written
module _ (entry budget : ℕ) (job : Bool) (code : List ℕ) where
  pub entry_field-pack : entry < 256 ^ 2 → entry_field (pack entry budget job code) ≡ entry
  unfolding front
  entry_field-pack h = little_number-reads_back 2 entry [] h

  pub length_field-pack : 32 + length code < 256 ^ 2
      → length_field (pack entry budget job code) ≡ 32 + length code
  unfolding front
  length_field-pack h = little_number-reads_back 2 (32 + length code) [] h

  pub budget_field-pack : budget < 256 ^ 4 → budget_field (pack entry budget job code) ≡ budget
  unfolding front
  budget_field-pack h = little_number-reads_back 4 budget [] h

-- the flags are those of a job or not
pub flags_field-pack : (entry budget : ℕ) (job : Bool) (code : List ℕ)
    → (flags_field (pack entry budget job code) ≤ 1)
    × (eqb (flags_field (pack entry budget job code)) 1 ≡ job)
unfolding front
flags_field-pack entry budget true code = (omega arith, refl)
flags_field-pack entry budget false code = (omega arith, refl)

-- an image is 32 bytes longer than its code
pub length-pack : (entry budget : ℕ) (job : Bool) (code : List ℕ)
    → length (pack entry budget job code) ≡ 32 + length code
unfolding front
length-pack entry budget job code = omega (arith, length-append (front entry budget job code) code)

-- images that say the same are the same
same_image : (entry entry' budget budget' : ℕ) (job job' : Bool) (code : List ℕ) → entry ≡ entry'
    → budget ≡ budget' → job ≡ job'
    → ◌≡◌ {A = Image} (record { entry = entry; budget = budget; job = job; code = code })
    (record { entry = entry'; budget = budget'; job = job'; code = code })
same_image entry entry' budget budget' job job' code e b j = rw (e, b, j) refl

-- what an image says is what its fields say
pub image_of-pack : (entry budget : ℕ) (job : Bool) (code : List ℕ) → FitsImage entry budget code
    → image_of (pack entry budget job code)
    ≡ record { entry = entry; budget = budget; job = job; code = code }
unfolding image_of front
image_of-pack entry budget job code fits =
    let inside = fits.entry_inside.1 in
    let bounded = fits.budget_range.1 in
    let short = fits.code_length.1 in
    same_image _ _ _ _ _ _ code
    (entry_field-pack entry budget job code (omega arith))
    (budget_field-pack entry budget job code (omega arith))
    (flags_field-pack entry budget job code).1

-- what is packed passes the checks
pub passes-pack : (entry budget : ℕ) (job : Bool) (code : List ℕ) → FitsImage entry budget code
    → Passes (pack entry budget job code)
unfolding front
passes-pack entry budget job code fits =
    let long = length-pack entry budget job code in
    let at_length =
    length_field-pack entry budget job code (let short = fits.code_length.1 in omega arith) in
    let at_entry =
    entry_field-pack entry budget job code (let inside = fits.entry_inside.1 in let short =
    fits.code_length.1 in omega arith) in
    let at_budget =
    budget_field-pack entry budget job code (let bounded = fits.budget_range.1 in
    omega arith) in
    record {
      front = omega arith;
      some = omega arith;
      most = omega arith;
      whole = omega arith;
      after = omega arith;
      inside = omega arith;
      marked = refl;
      first = refl;
      flagged = (flags_field-pack entry budget job code).0;
      turns = omega arith;
      bounded = omega arith;
      zeros = refl;
    }

-- an image is read as what it is the image of
pub image_of-image : (image : Image) (bytes : List ℕ) → IsImageOf image bytes
    → image_of bytes ≡ image
image_of-image image bytes is = ap image_of is.packed
    ∙ image_of-pack image.entry image.budget image.job image.code is.fits

-- an image passes the checks
pub passes-image : (image : Image) (bytes : List ℕ) → IsImageOf image bytes → Passes bytes
passes-image image bytes is =
    rw is.packed (passes-pack image.entry image.budget image.job image.code is.fits)

-- an image has its front
pub image_has_front : (bytes : List ℕ) → IsImageOf (image_of bytes) bytes → 32 ≤ length bytes
image_has_front bytes is = (passes-image (image_of bytes) bytes is).front

-- an image has its front and its code
pub length-image : (image : Image) (bytes : List ℕ) → IsImageOf image bytes
    → length bytes ≡ 32 + length image.code
length-image image bytes is = ap length is.packed
    ∙ length-pack image.entry image.budget image.job image.code

-- the length field is read as it was written, whatever follows the image
length_field-pack_then : (entry budget : ℕ) (job : Bool) (code rest : List ℕ)
    → 32 + length code < 256 ^ 2
    → length_field (pack entry budget job code ++ rest) ≡ 32 + length code
unfolding front
length_field-pack_then entry budget job code rest h = length_field-pack entry budget job code h

-- the length field of an image says its length, whatever follows
pub length_field-image_then : (image : Image) (bytes rest : List ℕ) → IsImageOf image bytes
    → length_field (bytes ++ rest) ≡ length bytes
length_field-image_then image bytes rest is =
    let short = is.fits.code_length.1 in
    ap (λ (all : List ℕ). length_field (all ++ rest)) is.packed
    ∙ length_field-pack_then image.entry image.budget image.job image.code rest (omega arith)
    ∙ sym (length-image image bytes is)
