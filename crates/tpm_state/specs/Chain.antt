-- Chains: what a register went through since it was last reset, as texts (TPM 1.2, part 1, platform
-- configuration registers; part 3, TPM_Extend).
use Rattle.std.specs.Prelude.{ℕ, ◌&&◌, nat_le, List, [], ◌∷◌, ◌++◌, replicate, map, slice_index_or}
use Rattle.std.specs.Prelude.{slice_set, if◌then◌else◌}
use Rattle.sha1.specs.Sha1.{sha1}

-- what a register holds when it is reset: 20 bytes 00, or 20 bytes FF
pub data Start : Type 0 where
  Zeros : Start
  Ones : Start

-- the 20 bytes of a start
abbrev pub start_value : Start → List ℕ
start_value Zeros = replicate 20 0
start_value Ones = replicate 20 255

infixl 5 ◌▷◌
-- a chain begins with a start, and grows by one text after another
pub data Chain : Type 0 where
  From : Start → Chain
  ◌▷◌ : Chain → List ℕ → Chain

-- a register's new value by its old one and the text that extends it (TPM 1.2: SHA-1 of the old
-- value and the text's digest)
abbrev pub extended_value : List ℕ → List ℕ → List ℕ
extended_value value text = sha1 (value ++ sha1 text)

-- the value that a register shows, by its chain
abbrev pub value : Chain → List ℕ
value (From start) = start_value start
value (chain ▷ text) = extended_value (value chain) text

-- where register r starts at power-on: at FF where it is one of 17 to 22, which a late launch can
-- reset
abbrev pub power_start : ℕ → Start
power_start r = if nat_le 17 r && nat_le r 22 then Ones else Zeros

-- where register 17 starts when a late launch resets it
abbrev pub launch_chain : Chain
launch_chain = From Zeros

-- how many registers there are
abbrev pub register_count : ℕ
register_count = 24

-- the numbers of the registers
abbrev pub register_numbers : List ℕ
register_numbers =
    0 ∷ 1 ∷ 2 ∷ 3 ∷ 4 ∷ 5 ∷ 6 ∷ 7 ∷ 8 ∷ 9 ∷ 10 ∷ 11 ∷ 12 ∷ 13 ∷ 14 ∷ 15 ∷ 16 ∷ 17 ∷ 18 ∷ 19 ∷ 20 ∷
    21 ∷ 22 ∷ 23 ∷ []

-- the chains after power-on
abbrev pub power_chains : List Chain
power_chains = map (λ r. From (power_start r)) register_numbers

-- the chain of register r
abbrev pub chain_of : List Chain → ℕ → Chain
chain_of chains r = slice_index_or chains r launch_chain

-- the chains after register r was extended by a text
abbrev pub with_text : List Chain → ℕ → List ℕ → List Chain
with_text chains r text = slice_set chains r (chain_of chains r ▷ text)
