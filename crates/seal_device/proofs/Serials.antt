-- What commands do to the keys, to the serial and to the count of random words, by any rules.
use Rattle.std.proofs.Common.{◌≡◌, ◌≢◌, ℕ, ◌<◌, ◌≤◌, ◌^◌, Bool, List, Option, Some, None, refl, sym}
use Rattle.std.proofs.Common.{◌∙◌, arith}
use Rattle.seal_device.specs.Keys.{Keys}
use Rattle.seal_device.specs.Rules.{Device, Rules}
use Rattle.seal_device.specs.Commands.{Command, Seal, Random, act}
use Rattle.seal_device.proofs.Sealable.{sealable}
use Rattle.seal_device.proofs.Effects.{after_each}

-- keys that are there stay
pub keys_stay : {H M : Type 0} (R : Rules H M) (c : Command) (d : Device H M) (keys : Keys) →
    d.keys ≡ Some keys → (act R c d).0.keys ≡ Some keys
keys_stay {H} {M} R c d keys is =
    after_each R c d (λ (e : Device H M). e.keys ≡ Some keys) (record {
      nothing = is;
      seeded = λ others none. absurd (let clash : None ≡ Some keys = sym none ∙ is in cc);
      measured = λ image. is;
      extended = λ r text chain there. is;
      sealed = λ bytes counter ahead borne one ok. is;
      quoted = λ nonce one. is;
      created = λ one. is;
      incremented = λ id one. is;
      drawn = λ one less. is;
      powered = is;
    })

-- a serial that is not below this one, and is in its range
abbrev pub FromTo : ℕ → ℕ → Type 0
FromTo serial next = (serial ≤ next) × (next < 2 ^ 64)

-- the serial never falls, and stays in its range
pub serial_stays : {H M : Type 0} (R : Rules H M) (c : Command) (d : Device H M) →
    d.serial < 2 ^ 64 → FromTo d.serial (act R c d).0.serial
serial_stays {H} {M} R c d low =
    let same : FromTo d.serial d.serial = (omega arith, low) in
    after_each R c d (λ (e : Device H M). FromTo d.serial e.serial) (record {
      nothing = same;
      seeded = λ others none. same;
      measured = λ image. same;
      extended = λ r text chain there. same;
      sealed = λ bytes counter ahead borne one ok.
          let told = sealable d.serial d.counters bytes counter ahead borne ok in
          let free = told.free in
          (omega arith, omega arith);
      quoted = λ nonce one. same;
      created = λ one. same;
      incremented = λ id one. same;
      drawn = λ one less. same;
      powered = same;
    })

-- no command but a sealing changes the serial
pub serial_stands : {H M : Type 0} (R : Rules H M) (c : Command) (d : Device H M) →
    ((bytes : List ℕ) (counter : Option ℕ) (ahead : Bool) → c ≢ Seal bytes counter ahead) →
    (act R c d).0.serial ≡ d.serial
serial_stands {H} {M} R c d other =
    after_each R c d (λ (e : Device H M). e.serial ≡ d.serial) (record {
      nothing = refl;
      seeded = λ others none. refl;
      measured = λ image. refl;
      extended = λ r text chain there. refl;
      sealed = λ bytes counter ahead borne one ok. absurd (other bytes counter ahead one);
      quoted = λ nonce one. refl;
      created = λ one. refl;
      incremented = λ id one. refl;
      drawn = λ one less. refl;
      powered = refl;
    })

-- no command but one draws a word
pub words_stay : {H M : Type 0} (R : Rules H M) (c : Command) (d : Device H M) → c ≢ Random →
    (act R c d).0.drawn ≡ d.drawn
words_stay {H} {M} R c d other =
    after_each R c d (λ (e : Device H M). e.drawn ≡ d.drawn) (record {
      nothing = refl;
      seeded = λ others none. refl;
      measured = λ image. refl;
      extended = λ r text chain there. refl;
      sealed = λ bytes counter ahead borne one ok. refl;
      quoted = λ nonce one. refl;
      created = λ one. refl;
      incremented = λ id one. refl;
      drawn = λ one less. absurd (other one);
      powered = refl;
    })
