-- A region that was lent.
use Rattle.std.proofs.Common.{◌≡◌, ℕ, List, length, ◌∙◌, sym}
use Rattle.std.specs.List.{refill}
use Rattle.machine_memory.specs.Contents.{first_byte}
use Rattle.machine_memory.specs.Areas.{region_frames}
use Rattle.machine_memory.proofs.Pieces.{refill-long}
use Rattle.late_launch.proofs.RegionLemmas.{region_size_is}

-- what came back, as long as what was lent, is the region
pub comes_back : (region bytes : List ℕ) → length bytes ≡ 65536 → refill (first_byte region_frames) region bytes ≡ bytes
comes_back region bytes long = refill-long (first_byte region_frames) region bytes (long ∙ sym region_size_is)
