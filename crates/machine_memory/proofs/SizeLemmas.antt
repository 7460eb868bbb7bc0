-- The sizes, for proofs that need the numbers.
use Rattle.std.proofs.Common.{◌≡◌, refl}
use Rattle.machine_memory.specs.Contents.{frame_count}
use Rattle.machine_memory.specs.Areas.{region_frames}

pub frame_count_is : frame_count ≡ 1024
unfolding frame_count
frame_count_is = refl

pub region_frames_is : region_frames ≡ 16
unfolding region_frames
region_frames_is = refl
