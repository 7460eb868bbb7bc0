-- Lists of registers, of which one is set.
use Rattle.std.proofs.Common.{◌≡◌, ℕ, ◌<◌, List, [], length, get_or, refl, ◌∙◌, ap}
use Rattle.std.specs.Prelude.{slice_set}
use Rattle.std.proofs.lemmas.List.{set-set, get_or-set_same, length-set}
use Rattle.tpm_state.specs.Chain.{extended_value, register_count}
use Rattle.seal_device.specs.Rules.{Device, Rules, launch_register, launch_start}
use Rattle.seal_device.specs.Commands.{Command, act}
use Rattle.seal_device.proofs.Effects.{after_each}

-- a register that is set, and extended then
pub extended_anew : (values : List (List ℕ)) (r : ℕ) (start text : List ℕ) → r < length values →
    slice_set (slice_set values r start) r
    (extended_value (get_or (slice_set values r start) r []) text)
    ≡ slice_set values r (extended_value start text)
extended_anew values r start text there =
    ap (λ value. slice_set (slice_set values r start) r (extended_value value text))
    (get_or-set_same values r start [] there)
    ∙ set-set values r start (extended_value start text)

-- a command leaves as many registers as there were
pub count_kept : {H M : Type 0} (R : Rules H M) (c : Command) (d : Device H M) →
    length d.chains ≡ register_count → length (act R c d).0.chains ≡ register_count
count_kept {H} {M} R c d count =
    after_each R c d (λ (e : Device H M). length e.chains ≡ register_count) (record {
      nothing = count;
      seeded = λ keys none. count;
      measured = λ image.
          length-set d.chains launch_register (R.extended (R.start launch_start) image) ∙ count;
      extended = λ r text chain there.
          length-set d.chains r (R.extended chain text) ∙ count;
      sealed = λ bytes counter ahead borne one ok. count;
      quoted = λ nonce one. count;
      created = λ one. count;
      incremented = λ id one. count;
      drawn = λ one less. count;
      powered = refl;
    })
