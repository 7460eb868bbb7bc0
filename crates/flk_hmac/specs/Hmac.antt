-- HMAC (RFC 2104, section 2) over SHA-1, whose blocks have 64 bytes.
use Rattle.std.specs.Prelude.{◌≡◌, ℕ, ◌-◌, List, ◌++◌, length, map, replicate, nat_lt, bit_xor}
use Rattle.std.specs.Prelude.{if◌then◌else◌}
use Rattle.sha1.specs.Sha1 as hash
use Rattle.sha1.specs.Sha1.{sha1}
use Rattle.flk_hmac.specs.declared.hmac.Hmac.{Hmac}

-- the byte that the inner hash repeats over a block
abbrev pub ipad : ℕ
ipad = 0x36

-- the byte that the outer hash repeats over a block
abbrev pub opad : ℕ
opad = 0x5c

-- a key that is longer than a block is hashed first
abbrev pub short_key : List ℕ → List ℕ
short_key key = if nat_lt 64 (length key) then sha1 key else key

-- the key with zeros after it, up to a block (step 1)
unfoldable pub block_key : List ℕ → List ℕ
block_key key = short_key key ++ replicate (64 - length (short_key key)) 0

-- a block with each byte exclusive-or a pad byte (steps 2 and 5)
unfoldable pub padded_block : List ℕ → ℕ → List ℕ
padded_block block pad = map (λ byte. bit_xor byte pad) block

-- the HMAC of a text: H(K XOR opad, H(K XOR ipad, text)) (steps 3, 4, 6 and 7)
unfoldable pub mac : List ℕ → List ℕ → List ℕ
mac key text =
    sha1 (padded_block (block_key key) opad ++ sha1 (padded_block (block_key key) ipad ++ text))

-- the key that a seed gives for a label
abbrev pub derive : List ℕ → List ℕ → List ℕ
derive seed label = mac seed label

-- the state under a key, after a text
unfoldable pub Holds : Hmac → List ℕ → List ℕ → Type 0
Holds hmac key text =
    (hmac.block ≡ block_key key) × hash.Holds hmac.inner (padded_block (block_key key) ipad ++ text)
