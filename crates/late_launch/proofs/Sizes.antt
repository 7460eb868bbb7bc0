-- How large a region is.
use Rattle.std.proofs.Common.{◌≡◌, refl}
use Rattle.machine_memory.specs.Areas.{region_frames}

-- it has 16 frames
pub region_frames_are : region_frames ≡ 16
unfolding region_frames
region_frames_are = refl
