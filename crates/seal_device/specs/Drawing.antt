-- Random words: each is the HMAC of its number, under a key of their own.
use Rattle.std.specs.Prelude.{ℕ, ◌+◌, ◌-◌, ◌^◌, ◌==◌, List, Result, Ok, Err, if◌then◌else◌}
use Rattle.byteorder.specs.Endian.{big_bytes}
use Rattle.flk_hmac.specs.Hmac.{mac}
use Rattle.seal_device.specs.Keys.{Keys}
use Rattle.seal_device.specs.Rules.{Device}
use Rattle.seal_device.specs.Refusals.Random as randoms

-- the number that no word gets: the last one
abbrev pub last_word : ℕ
last_word = 2 ^ 64 - 1

-- the random word of this number
abbrev pub random_word : Keys → ℕ → List ℕ
random_word keys n = mac keys.drawing (big_bytes 8 n)

-- the next random word is drawn
abbrev pub draw : {H M : Type 0} → Device H M → Keys →
    Device H M × Result (List ℕ) randoms.Refusal
draw d keys =
    if d.drawn == last_word
    then (d, Err randoms.RandomEnd)
    else (record d { drawn = d.drawn + 1 }, Ok (random_word keys d.drawn))
