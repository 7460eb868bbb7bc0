-- Launched code, turn by turn.
use Rattle.std.specs.Prelude.{ℕ, zero, suc, ◌+◌, Bool, List, [], length, map, filter, fold, Some, if◌then◌else◌}
use Rattle.flk_base.specs.Plan.{Plan, Return, ◌>>=◌}
use Rattle.i386_profile.specs.Effects.{State}
use Rattle.region_pool.specs.Spans.{Span}
use Rattle.machine_memory.specs.Writes.{written}
use Rattle.machine_memory.specs.Contents.{Contents}
use Rattle.machine_memory.specs.Areas.{guarded}
use Rattle.machine_memory.specs.DeviceWrites.{may_write}
use Rattle.machine_memory.specs.ArmedWrites.{Armed, is_due}
use Rattle.machine_memory.specs.declared.device.DevEnd.TheVariants as writes
use Rattle.seal_device.specs.Commands.{Command, Reply}
use Rattle.late_launch.specs.declared.ends.End.{End}
use Rattle.late_launch.specs.declared.ends.End.TheVariants.{Budget}
use Rattle.slb_core.specs.Services.{TurnEnd, Next, Over, turn}

-- which device writes are permitted, by their address and how many bytes they have
abbrev pub Permits : Type 0
Permits = ℕ → ℕ → Bool

-- those of a session in this area: each of their bytes lies in a frame that is neither excluded nor of the region
abbrev pub permits_at : Contents → Span → Permits
permits_at memory area = may_write (guarded memory area).excluded

-- what is outside the region: the bytes of memory, and the device writes that are armed
pub record Outside : Type 0 where
  pub bytes : List ℕ
  pub writes : List Armed

abbrev pub outside : List ℕ → List Armed → Outside
outside bytes writes = record { bytes = bytes; writes = writes }

-- bytes after a device's write: one that is not permitted changes nothing
abbrev pub after_write : Permits → List ℕ → Armed → List ℕ
after_write permits bytes write =
    if permits write.at (length write.bytes) then written bytes write.at write.bytes else bytes

-- a write that is no longer waiting: it is done where it is permitted, else blocked
abbrev pub ended_write : Permits → Armed → Armed
ended_write permits write =
    record write { ended = Some (if permits write.at (length write.bytes) then writes.Done else writes.Blocked) }

-- a write after a turn: one that waited for it is done, or blocked
abbrev pub ended_in : Permits → ℕ → Armed → Armed
ended_in permits turn write = if is_due turn write then ended_write permits write else write

-- what is outside after the device writes that wait for a turn, in the order of arming
abbrev pub after_writes : Permits → ℕ → Outside → Outside
after_writes permits turn o = record {
  bytes = fold (after_write permits) o.bytes (filter (is_due turn) o.writes);
  writes = map (ended_in permits turn) o.writes;
}

-- what code runs with: for how many turns at most, which device writes are permitted, its registers and its region, and
-- what is outside
pub record CodeStart : Type 0 where
  pub budget : ℕ
  pub permits : Permits
  pub state : State
  pub outside : Outside

-- how a session ended, or its code: after how many turns, with which outputs, and what is outside then
pub record PalEnd : Type 0 where
  pub end : End
  pub turns : ℕ
  pub outputs : List ℕ
  pub outside : Outside

-- how the code of a session ended, and the state that a job is to keep of it
pub record CodeEnd : Type 0 where
  pub ended : PalEnd
  pub kept : List ℕ

-- the code's end after so many turns
abbrev pub code_end : End → ℕ → List ℕ → Outside → List ℕ → CodeEnd
code_end end turns outputs outside kept = record {
  ended = record { end = end; turns = turns; outputs = outputs; outside = outside };
  kept = kept;
}

-- what follows a turn: the next one, or the end after so many turns
abbrev pub followed : ℕ → Outside → (State → Plan Command Reply CodeEnd) → TurnEnd → Plan Command Reply CodeEnd
followed turns outside next (Next s) = next s
followed turns outside next (Over end outputs kept) = Return (code_end end turns outputs outside kept)

-- the code, a job's or not: at most so many more turns, after those that are done; each does the device writes of its
-- number first
abbrev pub pal : Bool → Permits → ℕ → ℕ → State → Outside → Plan Command Reply CodeEnd
pal job permits zero done s o = Return (code_end Budget done [] o [])
pal job permits (suc more) done s o =
    turn job s
    >>= followed (done + 1) (after_writes permits (done + 1) o)
    (λ next. pal job permits more (done + 1) next (after_writes permits (done + 1) o))
