-- The platform of digests: a chain is kept as the 20 bytes that it shows, nothing is kept of what
-- was sealed or quoted, and a blob is whatever has the form and the tag of one, as is a quote.
use Rattle.std.specs.Prelude.{ℕ, List, Option, bytes_eq}
use Rattle.tpm_state.specs.Chain.{start_value, extended_value}
use Rattle.flk_base.specs.Plan.{Plan}
use Rattle.flk_base.specs.Stop.{Fused, fused}
use Rattle.seal_device.specs.Quoted.{quote_bytes}
use Rattle.seal_device.specs.Blobs.{parsed}
use Rattle.seal_device.specs.Rules.{Device, Rules}
use Rattle.seal_device.specs.Commands.{Command, Reply, act, costs}

-- a device that keeps 20 bytes of each register
abbrev pub DigestDevice : Type 0
DigestDevice = Device (List ℕ) (Unit {0})

-- the rules of digests
abbrev pub digests : Rules (List ℕ) (Unit {0})
digests = record {
  start = start_value;
  extended = extended_value;
  shown = λ value. value;
  same = bytes_eq;
  nothing_made = tt;
  remembered = λ r made. tt;
  with_quote = λ q made. tt;
  opened = λ keys made bytes. parsed keys bytes;
  says = λ keys made claim bytes. bytes_eq (quote_bytes keys claim) bytes;
}

-- a plan on a device of digests with a fuse: what stands after it, and its value unless power was
-- lost
abbrev pub on_device : {X : Type 0} → Plan Command Reply X → Fused DigestDevice →
    Fused DigestDevice × Option X
on_device plan before = fused costs (act digests) plan before
