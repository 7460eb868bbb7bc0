-- The test of a free mark, at a frame of a list.
use Rattle.std.proofs.Common.{◌≡◌, ◌≢◌, ℕ, ◌<◌, List, length, get_or, refl, ap, ◌∙◌, true, false}
use Rattle.std.proofs.Common.{Some, slice_get}
use Rattle.std.proofs.lemmas.Option.{slice_get-get_or}
use Rattle.region_pool.specs.declared.mark.Mark.{Mark}
use Rattle.region_pool.specs.declared.mark.Mark.TheVariants as mark
use Rattle.region_pool.specs.Marks.{is_free}

pub is_free-true : (m : Mark) → is_free m ≡ true → m ≡ mark.Free
is_free-true mark.Free e = refl
is_free-true mark.Host e = cc
is_free-true mark.Launch e = cc
is_free-true mark.Next e = cc

pub free_mark : (marks : List Mark) (frame : ℕ) (d : Mark) → frame < length marks
    → is_free (get_or marks frame d) ≡ true → slice_get marks frame ≡ Some mark.Free
free_mark marks frame d h e = slice_get-get_or marks frame d h
    ∙ ap Some (is_free-true (get_or marks frame d) e)

pub taken_mark : (marks : List Mark) (frame : ℕ) (d : Mark) → frame < length marks
    → is_free (get_or marks frame d) ≡ false → slice_get marks frame ≢ Some mark.Free
taken_mark marks frame d h e free =
    let at = slice_get-get_or marks frame d h in
    let same : get_or marks frame d ≡ mark.Free = cc in
    let test = ap is_free same in
    cc
