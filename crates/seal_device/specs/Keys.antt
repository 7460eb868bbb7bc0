-- The keys of a device. Each is for one use, and all come from one seed.
use Rattle.std.specs.Prelude.{ℕ, List, codes}
use Rattle.flk_hmac.specs.Hmac.{derive}

-- the keys: for the tags of blobs, the mask of what they bear, quotes, and random words
pub record Keys : Type 0 where
  pub sealing : List ℕ
  pub masking : List ℕ
  pub quoting : List ℕ
  pub drawing : List ℕ

-- the keys that a seed gives, each by a label of its own
abbrev pub keys_of : List ℕ → Keys
keys_of seed = record {
  sealing = derive seed (codes "flk-seal");
  masking = derive seed (codes "flk-mask");
  quoting = derive seed (codes "flk-quote");
  drawing = derive seed (codes "flk-rand");
}
