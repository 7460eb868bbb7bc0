-- What contracts see of a host and a runner, and of the marks of memory.
use Rattle.std.specs.Prelude.{◌≡◌, ℕ, ◌<◌, List, [], ◌∷◌, length, map, Bool, true, false, slice_get, Option, Some, None}
use Rattle.std.specs.List.{AllByRecursion}
use Rattle.std.specs.Coded.{Coded, coded_list, coded_ℕ}
use Rattle.std.specs.FinMap as finite
use Rattle.region_pool.specs.declared.mark.Mark.{Mark}
use Rattle.region_pool.specs.declared.mark.Mark.TheVariants.{Free}
use Rattle.region_pool.specs.declared.ticket.Purpose.TheVariants.{Host}
use Rattle.region_pool.specs.Marks.{is_free}
use Rattle.region_pool.specs.Spans.{Span, Holds, IsDisjoint}
use Rattle.machine_memory.specs.Contents.{Contents, frame_count}
use Rattle.machine_memory.specs.ArmedWrites.{Armed}
use Rattle.late_launch.specs.Boards.{BoardParts, fallen, powered}
use Rattle.expr_text.specs.Variables.{Table}
use Rattle.job_store.specs.Simulated.{Simulated}
use Rattle.machine_memory.specs.HostMemory.{HostMemory, HostSpan, is_taken}
use Rattle.flk_run.specs.Platform.{DigestPlatform}

-- a board once the power was lost and came back
abbrev pub board_after_power_on : BoardParts → BoardParts
board_after_power_on board = powered (fallen board)

-- all but memory is as it was: the device, the host's registers and the fuse
pub record KeepsDevice (old new : BoardParts) : Type 0 where
  pub device : new.device ≡ old.device
  pub registers : new.registers ≡ old.registers
  pub fuse : new.fuse ≡ old.fuse

-- ---- spans

-- each of the spans has no frame in common with those after it
abbrev pub AreApart : List Span → Type 0
AreApart [] = Unit {0}
AreApart (span ∷ spans) = AllByRecursion (IsDisjoint span) spans × AreApart spans

-- memory of these marks holds the spans, and no two of them have a frame in common
pub record HoldsSpans (marks : List Mark) (spans : List Span) : Type 0 where
  pub held : AllByRecursion (Holds marks) spans
  pub apart : AreApart spans

-- a span of the host as one that serves it, and the other way round
abbrev pub as_host : HostSpan → Span
as_host span = record { first = span.first; frames = span.frames; purpose = Host }

abbrev pub host_span : Span → HostSpan
host_span span = record { first = span.first; frames = span.frames }

-- the marks of all frames are those of the spans: the spans are held, and a frame in none of them
-- is free
pub record MarksAre (marks : List Mark) (spans : List HostSpan) : Type 0 where
  pub count : length marks ≡ frame_count
  pub held : HoldsSpans marks (map as_host spans)
  pub free : (frame : ℕ) → frame < frame_count → is_taken spans frame ≡ false
      → slice_get marks frame ≡ Some Free

-- memory holds what the platform says: its bytes, its spans and no others, and free frames alone
-- are excluded
pub record MemoryStands (p : HostMemory) (m : Contents) : Type 0 where
  pub bytes : m.bytes ≡ p.bytes
  pub marks : MarksAre m.marks p.spans
  pub excluded : m.excluded ≡ map is_free m.marks

-- memory by its bytes and the spans that the host holds
abbrev pub host_memory : Contents → List Span → HostMemory
host_memory memory spans = record { bytes = memory.bytes; spans = map host_span spans }

-- the host holds all spans of memory, and each of them serves it
pub record HoldsAll (memory : Contents) (spans : List Span) : Type 0 where
  pub stands : MemoryStands (host_memory memory spans) memory
  pub serve : map as_host (map host_span spans) ≡ spans

-- ---- hosts

-- what is true of every host: memory holds its spans, and no others, where it held none when the
-- host came
pub record IsHost (untaken : Bool) (memory : Contents) (spans : List Span) : Type 0 where
  pub held : HoldsSpans memory.marks spans
  pub all : untaken ≡ true → HoldsAll memory spans

-- a host: its board, its disk, the spans that it holds, whether memory held none when it came, the
-- device writes that are armed, and for how many more tickets there is room
pub record HostParts : Type 0 where
  pub board : BoardParts
  pub disk : Simulated
  pub spans : List Span
  pub untaken : Bool
  pub armed : List Armed
  pub spare : ℕ

-- ---- platforms by digests

-- tables of variables can be told apart
pub table_code : Coded Table
table_code = finite.code (coded_list coded_ℕ) (coded_list coded_ℕ)

-- the platform of a board, of whose memory the host holds these spans, and for whose next session
-- these writes are armed, beside this disk, with these variables
abbrev pub platform_with : List Armed → BoardParts → List Span → Simulated → Table → DigestPlatform
platform_with armed board spans disk variables = record {
  device = board.device;
  disk = disk;
  around = record {
    memory = host_memory board.memory spans;
    registers = board.registers;
    armed = armed;
    variables = variables;
  };
  fuse = board.fuse;
}

-- the same with no write armed
abbrev pub platform_of : BoardParts → List Span → Simulated → Table → DigestPlatform
platform_of board spans disk variables = platform_with [] board spans disk variables

-- the platform, where it is known; it is where memory held no span when the host came
abbrev pub known_if : Bool → DigestPlatform → Option DigestPlatform
known_if true p = Some p
known_if false p = None

-- ---- runners

-- what contracts see of a runner: its board, its disk, the spans that it holds, whether memory held
-- none when it was made, the device writes that are armed, and the variables
pub record Experiment : Type 0 where
  pub board : BoardParts
  pub disk : Simulated
  pub spans : List Span
  pub untaken : Bool
  pub armed : List Armed
  pub variables : Table

-- the runner of a host, with these variables
abbrev pub experiment : HostParts → Table → Experiment
experiment host variables = record {
  board = host.board;
  disk = host.disk;
  spans = host.spans;
  untaken = host.untaken;
  armed = host.armed;
  variables = variables;
}

-- the platform that a runner is, where it is known
abbrev pub platform : Experiment → Option DigestPlatform
platform e =
    known_if e.untaken (platform_with e.armed e.board e.spans e.disk e.variables)
