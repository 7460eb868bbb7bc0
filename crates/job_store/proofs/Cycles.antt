-- What a power cycle keeps.
use Rattle.std.proofs.Common.{◌≡◌, ℕ, ◌+◌, ◌<◌, ◌≤◌, List, length, refl}
use Rattle.std.proofs.Common.{sym, ◌∙◌, ap, arith, Some, slice_get, Bool, true, false, cond, get_or}
use Rattle.std.specs.Prelude.{count_by}
use Rattle.std.proofs.lemmas.Bool.{lt-ltb}
use Rattle.std.proofs.lemmas.List.Sums.{count_by_more_yes, sum_by-take-le}
use Rattle.std.proofs.lemmas.List.{take_all}
use Rattle.std.proofs.lemmas.Option.{slice_get-get_or, slice_get_within}
use Rattle.job_store.specs.Contents.{Contents, HasSize, IsSound, IsClean, disk_size}
use Rattle.job_store.specs.PowerCycle.{dirty_below, byte_after, disk_after}
use Rattle.job_store.proofs.Lists.{same_at_each}
use Rattle.job_store.proofs.Outcomes.{byte-power_cycle, clean-power_cycle, size-power_cycle}

-- fewer dirty places lie below a dirty place than there are
dirty_below-lt : (dirty : List Bool) (place : ℕ) → place < length dirty
    → get_or dirty place false ≡ true → dirty_below dirty place < dirty_below dirty (length dirty)
dirty_below-lt dirty place inside mark =
    let more = count_by_more_yes (λ is_dirty. is_dirty) dirty place false inside mark in
    let front = sum_by-take-le (λ (is_dirty : Bool). cond is_dirty 1 0) dirty (place + 1) in
    let all : dirty_below dirty (length dirty) ≡ count_by (λ is_dirty. is_dirty) dirty =
    ap (count_by (λ is_dirty. is_dirty)) (take_all (length dirty) dirty (omega arith)) in
    omega arith

pub clean-place : (disk : Contents) (keep place : ℕ) (fill : List ℕ) → HasSize disk
    → IsClean disk place → slice_get (disk_after keep fill disk) place ≡ slice_get disk.stable place
clean-place disk keep place fill h clean =
    let inside = slice_get_within disk.dirty place false clean in
    clean-power_cycle keep fill disk place h (omega (arith, h.dirty, inside)) clean

pub kept-cycle : (disk : Contents) (keep : ℕ) (fill : List ℕ) → HasSize disk → IsSound disk
    → dirty_below disk.dirty disk_size ≤ keep → disk_after keep fill disk ≡ disk.working
kept-cycle disk keep fill h s all =
    let size = (size-power_cycle keep fill disk).working in
    same_at_each (disk_after keep fill disk) disk.working (omega (arith, size, h.working))
    (λ place few. at place (omega (arith, size, few))) where
      by_mark : (place : ℕ) → place < disk_size → (mark : Bool) → get_or disk.dirty place false ≡ mark
          → byte_after keep fill disk place ≡ get_or disk.working place 0
      by_mark place inside true mark =
          let here : place < length disk.dirty = omega (arith, h.dirty) in
          let fewer = dirty_below-lt disk.dirty place here mark in
          let total : dirty_below disk.dirty (length disk.dirty) ≡ dirty_below disk.dirty disk_size =
          ap (dirty_below disk.dirty) h.dirty in
          let few : dirty_below disk.dirty place < keep = omega arith in
          rw (mark, lt-ltb (dirty_below disk.dirty place) keep few) refl
      by_mark place inside false mark =
          let here : place < length disk.dirty = omega (arith, h.dirty) in
          let clean : IsClean disk place =
          slice_get-get_or disk.dirty place false here ∙ ap Some mark in
          let working = slice_get-get_or disk.working place 0 (omega (arith, h.working)) in
          let stable = slice_get-get_or disk.stable place 0 (omega (arith, h.stable)) in
          let same = s place clean in
          let byte : get_or disk.stable place 0 ≡ get_or disk.working place 0 = cc in
          rw mark byte

      at : (place : ℕ) → place < disk_size
          → slice_get (disk_after keep fill disk) place ≡ slice_get disk.working place
      at place inside =
          byte-power_cycle keep fill disk place inside
          ∙ ap Some (by_mark place inside (get_or disk.dirty place false) refl)
          ∙ sym (slice_get-get_or disk.working place 0 (omega (arith, h.working)))
