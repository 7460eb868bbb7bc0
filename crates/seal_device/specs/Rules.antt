-- A device, and the few places where a platform of lists and one of digests differ. H is what the
-- history of a register is kept as, all its texts or 20 bytes; M is what is kept of what the device
-- gave out, all its records and quotes or nothing.
use Rattle.std.specs.Prelude.{ℕ, List, Bool, Option}
use Rattle.tpm_state.specs.Chain.{Start, Zeros, Chain}
use Rattle.tpm_state.specs.Counters.{Counters}
use Rattle.seal_device.specs.Keys.{Keys}
use Rattle.seal_device.specs.Sealed.{Sealed}
use Rattle.seal_device.specs.Quoted.{Quoted}

-- a device: the chain of each register, the counters, each owned by a chain, the keys, once it has a
-- seed, the serial of the next record that is sealed, how many random words were drawn, and what is
-- kept of the records that were sealed and of the quotes that were made
pub record Device (H M : Type 0) : Type 0 where
  pub chains : List H
  pub counters : Counters H
  pub keys : Option Keys
  pub serial : ℕ
  pub drawn : ℕ
  pub made : M

-- the rules of a platform: a chain that begins, a chain with one text more, the 20 bytes that it
-- shows, whether two are the same; what is kept where nothing was sealed or quoted, with one record
-- more, and with one quote more; the record whose blob bytes are, if they are one; and whether bytes
-- are the quote that they are claimed to be
pub record Rules (H M : Type 0) : Type 0 where
  pub start : Start → H
  pub extended : H → List ℕ → H
  pub shown : H → List ℕ
  pub same : H → H → Bool
  pub nothing_made : M
  pub remembered : Sealed H → M → M
  pub with_quote : Quoted H → M → M
  pub opened : Keys → M → List ℕ → Option (Sealed H)
  pub says : Keys → M → Quoted Chain → List ℕ → Bool

-- the register that a late launch resets, whose chain records are bound to and counters are owned by
-- (AMD64 manual, volume 2, SKINIT)
abbrev pub launch_register : ℕ
launch_register = 17

-- where register 17 starts when a late launch resets it
abbrev pub launch_start : Start
launch_start = Zeros
