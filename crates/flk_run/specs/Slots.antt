-- What contracts see of commands to the slots of the disk.
use Rattle.std.specs.Prelude.{ℕ, List, take, Option, Some, None, Result, Ok, Err}
use Rattle.flk_base.specs.Stop.{Fused, with_fuse}
use Rattle.seal_device.specs.Digests.{DigestDevice}
use Rattle.late_launch.specs.Boards.{BoardParts}
use Rattle.job_store.specs.Simulated.{Simulated}
use Rattle.job_store.specs.Commands.{disk_failed}
use Rattle.job_store.specs.declared.disk.DiskFailed.{DiskFailed}
use Rattle.job_store.specs.declared.slots.SlotFault.{SlotFault}
use Rattle.job_store.specs.declared.slots.SlotFault.TheVariants.{DiskFault, NoBlob, PowerLost}

-- the device of a board beside a disk, with the board's fuse
abbrev pub fused_machine : BoardParts → Simulated → Fused (DigestDevice × Simulated)
fused_machine board disk = with_fuse (board.device, disk) board.fuse

-- the reply to the read of a slot, by what the code answers, which has the blob in the first bytes of a
-- buffer; none where the power was lost
abbrev pub read_reply : List ℕ → Result ℕ SlotFault → Option (Result (Option (List ℕ)) DiskFailed)
read_reply buffer (Ok len) = Some (Ok (Some (take len buffer)))
read_reply buffer (Err NoBlob) = Some (Ok None)
read_reply buffer (Err DiskFault) = Some (Err disk_failed)
read_reply buffer (Err PowerLost) = None

-- the reply to a write or a sync; a write finds no blob missing
abbrev pub done_reply : Result (Unit {0}) SlotFault → Option (Result (Unit {0}) DiskFailed)
done_reply (Ok done) = Some (Ok done)
done_reply (Err PowerLost) = None
done_reply (Err other) = Some (Err disk_failed)
