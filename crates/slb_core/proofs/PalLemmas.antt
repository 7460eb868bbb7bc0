-- Turns, one after another: the plan of the rest from now is the plan of the whole from the start.
use Rattle.std.proofs.Common.{◌≡◌, ◌<◌, ◌-◌, ◌+◌, ℕ, suc, List, [], ◌∷◌, length, map, sym, refl, ap, ◌∙◌, inl, inr, arith, Bool, Option, Some, None, Result, Ok, Err}
use Rattle.std.specs.Prelude.{filter, fold}
use Rattle.std.proofs.lemmas.Bool.{cases_Bool}
use Rattle.flk_base.specs.declared.fuse.PowerLost.{PowerLost}
use Rattle.flk_base.specs.Plan.{Plan}
use Rattle.flk_base.specs.Stop.{Fused, then_fused}
use Rattle.flk_base.specs.StopLaws.{fused-bind}
use Rattle.i386_profile.specs.declared.cpu.Cpu.{Cpu}
use Rattle.i386_profile.specs.Effects.{State, state}
use Rattle.machine_memory.specs.Contents.{Contents}
use Rattle.machine_memory.specs.Areas.{guarded}
use Rattle.machine_memory.specs.DeviceWrites.{may_write, after_device_write}
use Rattle.machine_memory.specs.ArmedWrites.{Armed, is_due, after_device_writes, memory_after_turn, ended_by}
use Rattle.seal_device.specs.Commands.{Command, Reply, act, costs}
use Rattle.seal_device.specs.Digests.{DigestDevice, digests, on_device}
use Rattle.seal_device.specs.Faults.{power_lost}
use Rattle.late_launch.specs.declared.ends.End.TheVariants.{Budget}
use Rattle.late_launch.specs.Regions.{around_after_turn}
use Rattle.late_launch.specs.States.{LaunchedParts, session_device}
use Rattle.slb_core.specs.Services.{TurnEnd, Next, Over, turn}
use Rattle.slb_core.specs.Pal.{Permits, Outside, CodeEnd, outside, after_write, after_writes, followed, pal}
use Rattle.slb_core.specs.Spans.{around_with}
use Rattle.slb_core.specs.Sessions.{permits_of}
use Rattle.slb_core.specs.Reports.{TurnEnds, CodeEnds, IsLater}
use Rattle.slb_core.specs.declared.services.Ending.{Ending}
use Rattle.slb_core.specs.declared.services.Turned.{Turned}
use Rattle.slb_core.specs.declared.services.Turned.TheVariants as turned

-- ---- device writes, by what is permitted

-- a device's write, by what is permitted
record WritesSo (memory after : Contents) (bytes : List ℕ) : Type 0 where
  excluded : after.excluded ≡ memory.excluded
  bytes_are : after.bytes ≡ bytes

writes_so : (memory : Contents) (write : Armed) → WritesSo memory (after_device_write memory write.at write.bytes) (after_write (may_write memory.excluded) memory.bytes write)
writes_so memory write =
    elim (cases_Bool (may_write memory.excluded write.at (length write.bytes))) [
      | inl may ↦ rw may (record { excluded = refl; bytes_are = refl })
      | inr refused ↦ rw refused (record { excluded = refl; bytes_are = refl })
    ]

-- the bytes after device writes
pub bytes_after : (writes : List Armed) (memory : Contents) → (after_device_writes memory writes).bytes ≡ fold (after_write (may_write memory.excluded)) memory.bytes writes
bytes_after [] memory = refl
bytes_after (write ∷ writes) memory =
    let after = after_device_write memory write.at write.bytes in
    let so = writes_so memory write in
    bytes_after writes after
    ∙ ap (λ (excluded : List Bool). fold (after_write (may_write excluded)) after.bytes writes) so.excluded
    ∙ ap (λ (bytes : List ℕ). fold (after_write (may_write memory.excluded)) bytes writes) so.bytes_are

-- a turn's device writes leave memory around the region so
pub outside_after : (session : LaunchedParts) (turn : ℕ) (writes : List Armed)
    → around_after_turn turn session.area session.around writes ≡ around_with session (after_writes (permits_of session) turn (outside session.around.bytes writes)).bytes
outside_after session turn writes = ap (λ (bytes : List ℕ). around_with session bytes) (bytes_after (filter (is_due turn) writes) (guarded session.around session.area))

-- what a later session permits
pub same_permits : (before after : LaunchedParts) → IsLater before after → permits_of after ≡ permits_of before
same_permits before after later = rw (later.area, later.around) refl

-- ---- a turn, by how it ended

pub turn_lost : (turns : ℕ) (o : Outside) (next : State → Plan Command Reply CodeEnd) (ended : Fused DigestDevice × Option TurnEnd) (first before after : LaunchedParts) (cpu : Cpu) (writes : List Armed) (outputs : List ℕ)
    → TurnEnds ended before after cpu outputs (Err power_lost) → IsLater first after
    → CodeEnds (then_fused costs (act digests) (followed turns o next) ended) first after writes outputs (Err power_lost)
turn_lost turns o next (f, None) first before after cpu writes outputs t later = record { device = t.device; later = later; answers = refl }
turn_lost turns o next (f, Some (Next s)) first before after cpu writes outputs t later =
    absurd (let clash : ◌≡◌ {A = Result Turned PowerLost} (Err power_lost) (Ok turned.Next) = t.answers.0 in cc)
turn_lost turns o next (f, Some (Over end given kept)) first before after cpu writes outputs t later =
    absurd (let clash : ◌≡◌ {A = Result Turned PowerLost} (Err power_lost) (Ok (turned.Over (record { end = end; kept = length kept }))) = t.answers.0 in cc)

pub turn_over : (turns : ℕ) (o : Outside) (next : State → Plan Command Reply CodeEnd) (ended : Fused DigestDevice × Option TurnEnd) (first before after : LaunchedParts) (cpu : Cpu) (writes : List Armed) (outputs : List ℕ) (ending : Ending)
    → TurnEnds ended before after cpu outputs (Ok (turned.Over ending)) → IsLater first after → after.around.bytes ≡ o.bytes → writes ≡ o.writes
    → CodeEnds (then_fused costs (act digests) (followed turns o next) ended) first after writes outputs (Ok (record { end = ending.end; turns = turns; kept = ending.kept }))
turn_over turns o next (f, None) first before after cpu writes outputs ending t later around left =
    absurd (let clash : ◌≡◌ {A = Result Turned PowerLost} (Ok (turned.Over ending)) (Err power_lost) = t.answers in cc)
turn_over turns o next (f, Some (Next s)) first before after cpu writes outputs ending t later around left =
    absurd (let clash : ◌≡◌ {A = Result Turned PowerLost} (Ok (turned.Over ending)) (Ok turned.Next) = t.answers.0 in cc)
turn_over turns o next (f, Some (Over other given kept)) first before after cpu writes outputs ending t later around left =
    let same : ◌≡◌ {A = Ending} ending (record { end = other; kept = length kept }) =
    (let is : ◌≡◌ {A = Result Turned PowerLost} (Ok (turned.Over ending)) (Ok (turned.Over (record { end = other; kept = length kept }))) = t.answers.0 in cc) in
    record { device = t.device; later = later; answers = (rw same refl, (around, (left, t.answers.1))) }

pub turn_next : (turns : ℕ) (o : Outside) (next : State → Plan Command Reply CodeEnd) (ended : Fused DigestDevice × Option TurnEnd) (before after : LaunchedParts) (cpu : Cpu) (outputs : List ℕ)
    → TurnEnds ended before after cpu outputs (Ok turned.Next)
    → then_fused costs (act digests) (followed turns o next) ended ≡ on_device (next (state cpu after.region)) (session_device after)
turn_next turns o next (f, None) before after cpu outputs t =
    absurd (let clash : ◌≡◌ {A = Result Turned PowerLost} (Ok turned.Next) (Err power_lost) = t.answers in cc)
turn_next turns o next (f, Some (Next s)) before after cpu outputs t =
    let cpu_is = t.answers.1.0 in
    let region_is = t.answers.1.1 in
    rw (cpu_is, region_is) (ap (λ (b : Fused DigestDevice). on_device (next s) b) (sym t.device))
turn_next turns o next (f, Some (Over end given kept)) before after cpu outputs t =
    absurd (let clash : ◌≡◌ {A = Result Turned PowerLost} (Ok turned.Next) (Ok (turned.Over (record { end = end; kept = length kept }))) = t.answers.0 in cc)

-- ---- the rest from now

-- so many turns are done
pub record IsRest (job : Bool) (budget done : ℕ) (start cpu : Cpu) (first now : LaunchedParts) (writes left : List Armed) : Type 0 where
  pub plan : on_device (pal job (permits_of first) budget 0 (state start first.region) (outside first.around.bytes writes)) (session_device first)
      ≡ on_device (pal job (permits_of first) (budget - done) done (state cpu now.region) (outside now.around.bytes left)) (session_device now)
  pub later : IsLater first now

-- the session once the device writes of the next turn are done
abbrev pub moved : LaunchedParts → ℕ → List Armed → LaunchedParts
moved now done left = record now { around = around_after_turn (done + 1) now.area now.around left }

abbrev pub left_after : LaunchedParts → ℕ → List Armed → List Armed
left_after now done left = map (ended_by (done + 1) (guarded now.around now.area).excluded) left

-- the plan of the rest, by the turn that comes
rest_turn : (job : Bool) (permits : Permits) (budget done : ℕ) (cpu : Cpu) (now : LaunchedParts) (left : List Armed) → done < budget
    → on_device (pal job permits (budget - done) done (state cpu now.region) (outside now.around.bytes left)) (session_device now)
    ≡ then_fused costs (act digests)
    (followed (done + 1) (after_writes permits (done + 1) (outside now.around.bytes left)) (λ next. pal job permits (budget - (done + 1)) (done + 1) next (after_writes permits (done + 1) (outside now.around.bytes left))))
    (on_device (turn job (state cpu now.region)) (session_device now))
rest_turn job permits budget done cpu now left more =
    let one_more : budget - done ≡ suc (budget - (done + 1)) = omega arith in
    ap (λ (n : ℕ). on_device (pal job permits n done (state cpu now.region) (outside now.around.bytes left)) (session_device now)) one_more
    ∙ fused-bind costs (act digests) (turn job (state cpu now.region)) _ (session_device now)

-- a turn changes neither the host's registers nor the area, and of memory around the region the bytes alone
later_turn : (first now after : LaunchedParts) (done : ℕ) (left : List Armed) (ended : Fused DigestDevice × Option TurnEnd) (cpu : Cpu) (outputs : List ℕ) (answer : Result Turned PowerLost)
    → IsLater first now → TurnEnds ended (moved now done left) after cpu outputs answer → IsLater first after
later_turn first now after done left ended cpu outputs answer later t =
    let moved_around : after.around ≡ around_with now (memory_after_turn (done + 1) (guarded now.around now.area) left).bytes = ap (λ (s : LaunchedParts). s.around) t.others in
    record {
      saved = ap (λ (s : LaunchedParts). s.saved) t.others ∙ later.saved;
      area = ap (λ (s : LaunchedParts). s.area) t.others ∙ later.area;
      around = later_around first now after _ later.around moved_around;
    }
  where
    later_around : (first now after : LaunchedParts) (bytes : List ℕ) → now.around ≡ around_with first now.around.bytes → after.around ≡ around_with now bytes → after.around ≡ around_with first after.around.bytes
    later_around first now after bytes was is =
        let bytes_are : bytes ≡ after.around.bytes = sym (ap (λ (m : Contents). m.bytes) is) in
        is ∙ ap (λ (m : Contents). record m { bytes = bytes }) was ∙ ap (λ (xs : List ℕ). around_with first xs) bytes_are

module _ (job : Bool) (budget done : ℕ) (start cpu : Cpu) (first now after : LaunchedParts) (writes left : List Armed) (outputs : List ℕ) (made : Cpu) (rest : IsRest job budget done start cpu first now writes left) (more : done < budget) where
  abbrev ended : Fused DigestDevice × Option TurnEnd
  ended = on_device (turn job (state cpu now.region)) (session_device now)

  abbrev permits : Permits
  permits = permits_of first

  -- what is outside after the turn, whatever it came to
  abbrev moved_outside : Outside
  moved_outside = after_writes permits (done + 1) (outside now.around.bytes left)

  bytes_moved : (answer : Result Turned PowerLost) → TurnEnds ended (moved now done left) after made outputs answer → after.around.bytes ≡ moved_outside.bytes
  bytes_moved answer t =
      ap (λ (s : LaunchedParts). s.around.bytes) t.others
      ∙ ap (λ (m : Contents). m.bytes) (outside_after now (done + 1) left)
      ∙ ap (λ (p : Permits). (after_writes p (done + 1) (outside now.around.bytes left)).bytes) (same_permits first now rest.later)

  writes_moved : left_after now done left ≡ moved_outside.writes
  writes_moved = ap (λ (p : Permits). (after_writes p (done + 1) (outside now.around.bytes left)).writes) (same_permits first now rest.later)

  pub rest_next : TurnEnds ended (moved now done left) after made outputs (Ok turned.Next) → IsRest job budget (done + 1) start made first after writes (left_after now done left)
  rest_next t =
      let bytes = bytes_moved (Ok turned.Next) t in
      record {
        plan = rest.plan ∙ rest_turn job permits budget done cpu now left more
            ∙ turn_next (done + 1) moved_outside (λ next. pal job permits (budget - (done + 1)) (done + 1) next moved_outside) ended (moved now done left) after made outputs t
            ∙ ap (λ (o : Outside). on_device (pal job permits (budget - (done + 1)) (done + 1) (state made after.region) o) (session_device after)) (same_outside _ _ _ _ (sym bytes) (sym writes_moved));
        later = later_turn first now after done left ended made outputs (Ok turned.Next) rest.later t;
      }
    where
      same_outside : (bytes bytes' : List ℕ) (writes writes' : List Armed) → bytes ≡ bytes' → writes ≡ writes' → outside bytes writes ≡ outside bytes' writes'
      same_outside bytes bytes' writes writes' b w = rw (b, w) refl

  pub rest_lost : TurnEnds ended (moved now done left) after made outputs (Err power_lost)
      → CodeEnds (on_device (pal job (permits_of first) budget 0 (state start first.region) (outside first.around.bytes writes)) (session_device first)) first after (left_after now done left) outputs (Err power_lost)
  rest_lost t =
      rw (rest.plan ∙ rest_turn job permits budget done cpu now left more)
      (turn_lost (done + 1) moved_outside _ ended first (moved now done left) after made (left_after now done left) outputs t (later_turn first now after done left ended made outputs (Err power_lost) rest.later t))

  pub rest_over : (ending : Ending) → TurnEnds ended (moved now done left) after made outputs (Ok (turned.Over ending))
      → CodeEnds (on_device (pal job (permits_of first) budget 0 (state start first.region) (outside first.around.bytes writes)) (session_device first)) first after (left_after now done left) outputs (Ok (record { end = ending.end; turns = done + 1; kept = ending.kept }))
  rest_over ending t =
      rw (rest.plan ∙ rest_turn job permits budget done cpu now left more)
      (turn_over (done + 1) moved_outside _ ended first (moved now done left) after made (left_after now done left) outputs ending t
      (later_turn first now after done left ended made outputs (Ok (turned.Over ending)) rest.later t) (bytes_moved (Ok (turned.Over ending)) t) writes_moved)

-- no turn is done
pub rest_all : (job : Bool) (budget : ℕ) (start : Cpu) (first : LaunchedParts) (writes : List Armed) → IsRest job budget 0 start start first first writes writes
rest_all job budget start first writes =
    let all : budget - 0 ≡ budget = omega arith in
    record { plan = rw all refl; later = record { saved = refl; area = refl; around = refl } }

-- no turn is left
pub rest_none : (job : Bool) (budget done : ℕ) (start cpu : Cpu) (first now : LaunchedParts) (writes left : List Armed) (outputs : List ℕ) → IsRest job budget done start cpu first now writes left → budget ≡ done
    → CodeEnds (on_device (pal job (permits_of first) budget 0 (state start first.region) (outside first.around.bytes writes)) (session_device first)) first now left outputs (Ok (record { end = Budget; turns = budget; kept = 0 }))
rest_none job budget done start cpu first now writes left outputs rest over =
    let nothing : budget - done ≡ 0 = omega arith in
    rw (rest.plan, nothing) (record { device = refl; later = rest.later; answers = (rw over refl, (refl, (refl, (record { same = refl; few = omega arith }, refl)))) })
