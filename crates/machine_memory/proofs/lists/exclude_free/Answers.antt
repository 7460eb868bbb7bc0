use Rattle.std.proofs.Common.{◌≡◌, ◌≢◌, ℕ, ◌<◌, ◌↔◌, List, length, map, get_or, refl, sym, ◌∙◌}
use Rattle.std.proofs.Common.{arith, below_more, get_or-set_other, get_or-set_same, Bool, true}
use Rattle.std.proofs.Common.{false, not, Some, slice_get}
use Rattle.std.proofs.lemmas.Bool.{false≢true}
use Rattle.std.proofs.lemmas.List.{get_or-map, length-map, ext_get_or}
use Rattle.std.proofs.lemmas.Option.{slice_get-get_or}
use Rattle.region_pool.specs.declared.mark.Mark.{Mark}
use Rattle.region_pool.specs.declared.mark.Mark.TheVariants as mark
use Rattle.region_pool.specs.Marks.{IsTaken, is_free}
use Rattle.machine_memory.proofs.lists.exclude_free.Goals as goal

free_bit : (m : Mark) (taken : Bool) → (taken ≡ true) ↔ (m ≢ mark.Free) → not taken ≡ is_free m
free_bit mark.Free true e = absurd (e.0 refl refl)
free_bit mark.Free false e = refl
free_bit mark.Host true e = refl
free_bit mark.Host false e = absurd (false≢true (e.1 (λ clash. cc)))
free_bit mark.Launch true e = refl
free_bit mark.Launch false e = absurd (false≢true (e.1 (λ clash. cc)))
free_bit mark.Next true e = refl
free_bit mark.Next false e = absurd (false≢true (e.1 (λ clash. cc)))

free_frame : (marks : List Mark) (frame : ℕ) (taken : Bool) → frame < length marks → (taken ≡ true)
    ↔ IsTaken marks frame → not taken ≡ get_or (map is_free marks) frame true
free_frame marks frame taken h e =
    let here : slice_get marks frame ≡ Some (get_or marks frame mark.Free) =
    slice_get-get_or marks frame mark.Free h in
    free_bit (get_or marks frame mark.Free) taken (rw here at e)
    ∙ sym (get_or-map is_free marks frame mark.Free true h)

pub loop-frame-preserved : goal.loop-frame-preserved
loop-frame-preserved c =
    let inside = c.loop-frame-test.true in
    let size = c.requires.size in
    let long = c.loop-frame.auto.excluded in
    below_more _ _
    (λ k h. let ne : k ≢ c.loop-frame.frame = omega arith in
    rw get_or-set_other (c.loop-frame.invariant k h))
    (let lt : c.loop-frame.frame < length c.loop-frame.excluded = omega arith in
    rw get_or-set_same
    (free_frame c.args.pool.now c.loop-frame.frame c.is_taken.result (omega arith)
    c.is_taken.ensures))

pub returns : goal.returns
returns c =
    let done = c.loop-frame-test.false in
    let size = c.requires.size in
    let long = c.loop-frame.auto.excluded in
    let mapped = length-map c.args.pool.now is_free in
    ext_get_or true _ _ (omega arith) (λ k h. c.loop-frame.invariant k (omega arith))
