-- What the host does to memory, and that it has the tickets for all spans then.
use Rattle.std.proofs.Common.{◌≡◌, ℕ, zero, suc, ◌<◌, ◌≤◌, Bool, true, false, not, eqb, List, [], ◌∷◌, ◌++◌, length, map, filter, find, replicate, refl, sym, ap, subst, ◌∙◌, inl, inr, arith, Some, None, slice_get}
use Rattle.std.specs.Prelude.{position}
use Rattle.std.specs.List.{remove, list_all}
use Rattle.std.specs.FinMap.{empty}
use Rattle.std.proofs.lemmas.Bool.{cases_Bool, cond-true, cond-false, eq-eqb, false_from_ne_true, eqb-true}
use Rattle.std.proofs.lemmas.List.{map-append}
use Rattle.std.proofs.lemmas.List.Quantifiers.{position-Some}
use Rattle.std.proofs.lemmas.Option.{get_or_from_slice_get}
use Rattle.region_pool.specs.declared.mark.Mark.{Mark}
use Rattle.region_pool.specs.declared.mark.Mark.TheVariants as mark
use Rattle.region_pool.specs.Marks.{is_free}
use Rattle.region_pool.specs.declared.ticket.Purpose.{Purpose}
use Rattle.region_pool.specs.declared.ticket.Purpose.TheVariants.{Host}
use Rattle.region_pool.specs.Spans.{Span, Holds}
use Rattle.region_pool.specs.Places.{HasNoPlace}
use Rattle.machine_memory.specs.Writes.{part}
use Rattle.machine_memory.specs.Contents.{Contents, IsMemory, frame_count, first_byte, blank, after_power_cycle}
use Rattle.machine_memory.specs.Spans.{LiesInSpan, with_bytes, after_give}
use Rattle.machine_memory.specs.DeviceWrites.{may_write, device_end, after_device_write}
use Rattle.machine_memory.specs.declared.device.DevEnd.TheVariants as device
use Rattle.flk_run.specs.declared.answers.Refusal.TheVariants.{NoRoom, NoSpan, NoTaken, NoBlocked}
use Rattle.machine_memory.specs.HostMemory.{HostSpan, HostMemory, place, starts_at, are_taken, are_open, with_span, without_span, is_untaken}
use Rattle.flk_run.specs.Answers.{Answer, Done, Counts, Shows, Refused}
use Rattle.flk_run.specs.Events.{span_taken, span_given, written_by_host, bytes_shown, written_by_device}
use Rattle.seal_device.specs.Digests.{digests}
use Rattle.job_store.specs.Simulated.{Simulated}
use Rattle.flk_run.specs.Platform as platforms
use Rattle.flk_run.specs.Parts.{HoldsSpans, as_host, host_span, MemoryStands, HoldsAll, IsHost, host_memory, platform_of, known_if}
use Rattle.late_launch.specs.Boards.{blank_board}
use Rattle.flk_run.specs.Taking.{Took}
use Rattle.flk_run.proofs.MarkLemmas.{place_found, place_missing, lies_taken, not_taken, may_write_open}
use Rattle.flk_run.proofs.TicketLemmas.{starts, all_get, found, missing}
use Rattle.flk_run.proofs.MemoryLemmas.{memory_taken, memory_given, memory_written}

-- memory with these tickets is as an event leaves it, which answers so
pub record Leaves (end : HostMemory × Answer) (m : Contents) (spans : List Span)
    (shown : Answer) : Type 0 where
  pub all : HoldsAll m spans
  pub is : ◌≡◌ {A = HostMemory × Answer} (host_memory m spans, shown) end

-- ---- tickets

-- the spans of the host are what they were
hosts_again : (hosts : List HostSpan) → map host_span (map as_host hosts) ≡ hosts
hosts_again [] = refl
hosts_again (s ∷ ss) = ap (λ (xs : List HostSpan). s ∷ xs) (hosts_again ss)

-- the tickets are for the spans of memory that stands so
pub stands_so : (p : HostMemory) (m : Contents) (spans : List Span) → MemoryStands p m
    → spans ≡ map as_host p.spans → (host_memory m spans ≡ p) × HoldsAll m spans
stands_so p m spans stands tickets =
    let hosts : map host_span spans ≡ p.spans = ap (map host_span) tickets ∙ hosts_again p.spans in
    let same : host_memory m spans ≡ p = rw (stands.bytes, hosts) refl in (
      same,
      record {
        stands = subst (λ (q : HostMemory). MemoryStands q m)
            (sym same) stands;
        serve = ap (map as_host) hosts ∙ sym tickets;
      },
    )

leaves_so : (p : HostMemory) (m : Contents) (spans : List Span) (shown : Answer) → MemoryStands p m
    → spans ≡ map as_host p.spans → Leaves (p, shown) m spans shown
leaves_so p m spans shown stands tickets =
    let both = stands_so p m spans stands tickets in
    record {
      all = both.1;
      is = ap (λ (q : HostMemory). let end : HostMemory
          × Answer = (q, shown) in end) both.0;
    }

-- nothing happens to memory
unchanged : (m : Contents) (spans : List Span) (shown : Answer) → HoldsAll m spans
    → Leaves (host_memory m spans, shown) m spans shown
unchanged m spans shown h = record { all = h; is = refl }

-- the host holds all of memory of which nothing is taken
free_marks : (marks : List Mark) → list_all is_free marks ≡ true → (frame : ℕ)
    → frame < length marks → slice_get marks frame ≡ Some mark.Free
free_marks [] all frame few = absurd (omega arith)
free_marks (mark.Free ∷ marks) all zero few = refl
free_marks (mark.Free ∷ marks) all (suc frame) few = free_marks marks all frame (omega arith)
free_marks (mark.Host ∷ marks) all frame few = absurd (cc)
free_marks (mark.Launch ∷ marks) all frame few = absurd (cc)
free_marks (mark.Next ∷ marks) all frame few = absurd (cc)

shut_bits : (marks : List Mark) (bits : List Bool) → length bits ≡ length marks
    → list_all is_free marks ≡ true
    → ((frame : ℕ) → slice_get marks frame ≡ Some mark.Free → slice_get bits frame ≡ Some true)
    → bits ≡ map is_free marks
shut_bits [] [] long all shut = refl
shut_bits [] (bit ∷ bits) long all shut = absurd (omega (arith, long))
shut_bits (m ∷ marks) [] long all shut = absurd (omega (arith, long))
shut_bits (mark.Free ∷ marks) (bit ∷ bits) long all shut =
    let here : Some bit ≡ Some true = shut 0 refl in
    let first : bit ≡ true = cc in
    ap (λ (b : Bool). b ∷ bits) first
    ∙ ap (λ (bs : List Bool). true ∷ bs)
    (shut_bits marks bits (omega (arith, long)) all (λ frame free. shut (suc frame) free))
shut_bits (mark.Host ∷ marks) (bit ∷ bits) long all shut = absurd (cc)
shut_bits (mark.Launch ∷ marks) (bit ∷ bits) long all shut = absurd (cc)
shut_bits (mark.Next ∷ marks) (bit ∷ bits) long all shut = absurd (cc)

pub all_of_untaken : (m : Contents) → IsMemory m → is_untaken m ≡ true → HoldsAll m []
all_of_untaken m is free = record {
  stands = record {
    bytes = refl;
    marks = record {
      count = is.frames;
      held = record { held = tt; apart = tt };
      free = λ frame few none. free_marks m.marks free frame (omega (arith, few, is.frames));
    };
    excluded = shut_bits m.marks m.excluded (is.bits ∙ sym is.frames) free is.free_is_excluded;
  };
  serve = refl;
}

-- a board that was never used is the platform that was never used, with any disk
all_free_marks : (n : ℕ) → list_all is_free (replicate n mark.Free) ≡ true
all_free_marks zero = refl
all_free_marks (suc n) = all_free_marks n

pub blank_known : (disk : Simulated)
    → known_if (is_untaken blank) (platform_of blank_board [] disk empty)
    ≡ Some (platforms.blank digests disk)
blank_known disk = rw (all_free_marks frame_count) refl

-- ---- hosts

-- one who has taken nothing yet
pub new_host : (m : Contents) → IsMemory m → IsHost (is_untaken m) m []
new_host m is = record { held = record { held = tt; apart = tt }; all = all_of_untaken m is }

-- one whose memory was written, or whose power came back: it holds the same spans
pub host_same : (untaken : Bool) (m new : Contents) (spans : List Span) → IsHost untaken m spans
    → new.marks ≡ m.marks → (HoldsAll m spans → HoldsAll new spans) → IsHost untaken new spans
host_same untaken m new spans h same all =
    record {
      held = subst (λ (ms : List Mark). HoldsSpans ms spans)
          (sym same) h.held;
      all = λ u. all (h.all u);
    }

-- the host holds the same spans once the power came back
pub all_powered : (m : Contents) (spans : List Span) → HoldsAll m spans
    → HoldsAll (after_power_cycle m) spans
all_powered m spans h = record {
  stands = record { bytes = refl; marks = h.stands.marks; excluded = refl };
  serve = h.serve;
}

-- ---- taking

abbrev span_at : ℕ → ℕ → Purpose → Span
span_at first frames purpose = record { first = first; frames = frames; purpose = purpose }

serves : (frames : ℕ) (t : Span) → t.frames ≡ frames → t.purpose ≡ Host
    → t ≡ span_at t.first frames Host
serves frames t long purpose =
    ap (λ (n : ℕ). span_at t.first n t.purpose) long
    ∙ ap (λ (q : Purpose). span_at t.first frames q) purpose

pub take_done : (frames : ℕ) (m new : Contents) (spans : List Span) (t : Span) → HoldsAll m spans
    → 1 ≤ frames → Took frames m new t
    → Leaves (span_taken frames (host_memory m spans)) new (spans ++ t ∷ [])
    (Counts (first_byte t.first))
take_done frames m new spans t h some took =
    let p = host_memory m spans in
    let taken : HostSpan = record { first = t.first; frames = frames } in
    let is : t ≡ as_host taken = serves frames t took.long took.purpose in
    let some_frames : eqb frames 0 ≡ false = false_from_ne_true _
    (λ e. let z = eqb-true frames 0 e in omega arith) in
    let at_place : place p.spans frames 1
    ≡ Some t.first = place_found m.marks p.spans frames 1 t.first h.stands.marks some took.lowest in
    let tickets : spans ++ t ∷ [] ≡ map as_host (p.spans ++ taken ∷ []) =
    ap (λ (xs : List Span). xs ++ t ∷ []) (sym h.serve)
    ∙ ap (λ (x : Span). map as_host p.spans ++ x ∷ []) is
    ∙ sym (map-append as_host p.spans (taken ∷ [])) in
    rw (some_frames, at_place) (leaves_so (with_span t.first frames p) new (spans ++ t ∷ [])
    (Counts (first_byte t.first))
    (memory_taken p m new taken h.stands some
    (subst (λ (x : Span). Took frames m new x) is took)) tickets)

pub take_none : (frames : ℕ) (m : Contents) (spans : List Span) → HoldsAll m spans → frames ≡ 0
    → Leaves (span_taken frames (host_memory m spans)) m spans (Refused NoRoom)
take_none frames m spans h none = rw (eq-eqb frames 0 none) (unchanged m spans (Refused NoRoom) h)

pub take_missing : (frames : ℕ) (m : Contents) (spans : List Span) → HoldsAll m spans → 1 ≤ frames
    → HasNoPlace m.marks frames 1
    → Leaves (span_taken frames (host_memory m spans)) m spans (Refused NoRoom)
take_missing frames m spans h some full =
    let p = host_memory m spans in
    let some_frames : eqb frames 0 ≡ false = false_from_ne_true _
    (λ e. let z = eqb-true frames 0 e in omega arith) in
    let no_place : place p.spans frames 1
    ≡ None = place_missing m.marks p.spans frames 1 h.stands.marks some full in
    rw (some_frames, no_place) (unchanged m spans (Refused NoRoom) h)

-- ---- giving back

pub give_done : (at i : ℕ) (m new : Contents) (spans : List Span) (t : Span) → HoldsAll m spans
    → slice_get spans i ≡ Some t → position (starts at) spans ≡ Some i → new ≡ after_give m t
    → ((other : Span) → Holds m.marks other → (other ≡ t → ⊥) → Holds new.marks other)
    → Leaves (span_given at (host_memory m spans)) new (remove spans i) Done
give_done at i m new spans t h there where_at given stay =
    let p = host_memory m spans in
    let xs : List Span = map as_host p.spans in
    let held = h.stands.marks.held in
    let here : slice_get xs i ≡ Some t = subst (λ (ys : List Span). slice_get ys i ≡ Some t)
    (sym h.serve) there in
    let index : position (starts at) xs
    ≡ Some i = subst (λ (ys : List Span). position (starts at) ys ≡ Some i)
    (sym h.serve) where_at in
    let is_first = position-Some (starts at) xs i t index in
    let passes : starts at t ≡ true = ap (starts at) (sym (get_or_from_slice_get xs i t t here))
    ∙ is_first.1 in
    let f = found m.marks p.spans at i t held.held held.apart here passes is_first.2 in
    let holds : Holds m.marks (as_host f.span) = subst (λ (x : Span). Holds m.marks x) f.is
    (all_get (Holds m.marks) xs i t held.held here) in
    let tickets : remove spans i ≡ map as_host
    (filter (λ other. not (starts_at (first_byte f.span.first) other)) p.spans) =
    ap (λ (ys : List Span). remove ys i) (sym h.serve)
    ∙ sym (ap (λ (a : ℕ). map as_host
    (filter (λ other. not (starts_at a other)) p.spans)) f.address ∙ f.left) in
    rw f.first (leaves_so (without_span f.span p) new (remove spans i) Done
    (memory_given p m new f.span h.stands holds (given ∙ ap (after_give m) f.is)
    (λ other held' no'. stay other held' (λ e. no' (e ∙ f.is)))) tickets)

pub give_missing : (at : ℕ) (m : Contents) (spans : List Span) → HoldsAll m spans
    → position (starts at) spans ≡ None
    → Leaves (span_given at (host_memory m spans)) m spans (Refused NoSpan)
give_missing at m spans h none =
    let p = host_memory m spans in
    let no_span : find (starts_at at) p.spans
    ≡ None = missing p.spans at (subst (λ (ys : List Span). position (starts at) ys ≡ None)
    (sym h.serve) none) in
    rw no_span (unchanged m spans (Refused NoSpan) h)

-- ---- bytes

pub poke_done : (at : ℕ) (bytes : List ℕ) (m new : Contents) (spans : List Span) → HoldsAll m spans
    → LiesInSpan m.marks at (length bytes) → new ≡ with_bytes m at bytes
    → Leaves (written_by_host at bytes (host_memory m spans)) new spans Done
poke_done at bytes m new spans h lies is =
    let p = host_memory m spans in
    let may : are_taken p.spans at (length bytes)
    ≡ true = lies_taken m.marks p.spans at (length bytes) h.stands.marks lies in
    rw may (leaves_so _ new spans Done (memory_written p m new at bytes h.stands is) (sym h.serve))

pub poke_refused : (at : ℕ) (bytes : List ℕ) (m : Contents) (spans : List Span) → HoldsAll m spans
    → (LiesInSpan m.marks at (length bytes) → ⊥)
    → Leaves (written_by_host at bytes (host_memory m spans)) m spans (Refused NoTaken)
poke_refused at bytes m spans h no' =
    let p = host_memory m spans in
    let may : are_taken p.spans at (length bytes)
    ≡ false = not_taken m.marks p.spans at (length bytes) h.stands.marks no' in
    rw may (unchanged m spans (Refused NoTaken) h)

pub peek_done : (at count : ℕ) (shown : List ℕ) (m : Contents) (spans : List Span)
    → HoldsAll m spans → LiesInSpan m.marks at count → shown ≡ part m.bytes at count
    → Leaves (bytes_shown at count (host_memory m spans)) m spans (Shows shown)
peek_done at count shown m spans h lies is =
    let p = host_memory m spans in
    let may : are_taken p.spans at count
    ≡ true = lies_taken m.marks p.spans at count h.stands.marks lies in
    rw (may, is) (unchanged m spans (Shows (part m.bytes at count)) h)

pub peek_refused : (at count : ℕ) (m : Contents) (spans : List Span) → HoldsAll m spans
    → (LiesInSpan m.marks at count → ⊥)
    → Leaves (bytes_shown at count (host_memory m spans)) m spans (Refused NoTaken)
peek_refused at count m spans h no' =
    let p = host_memory m spans in
    let may : are_taken p.spans at count
    ≡ false = not_taken m.marks p.spans at count h.stands.marks no' in
    rw may (unchanged m spans (Refused NoTaken) h)

done_may : (m : Contents) (at count : ℕ) → device.Done ≡ device_end m.excluded at count
    → may_write m.excluded at count ≡ true
done_may m at count e = elim (cases_Bool (may_write m.excluded at count)) [
  | inl may ↦ may
  | inr not_so ↦ let f = e ∙ cond-false
      (may_write m.excluded at count) device.Done device.Blocked not_so in absurd (cc)
]

blocked_not : (m : Contents) (at count : ℕ) → device.Blocked ≡ device_end m.excluded at count
    → may_write m.excluded at count ≡ false
blocked_not m at count e = elim (cases_Bool (may_write m.excluded at count)) [
  | inl may ↦ let f = e ∙ cond-true (may_write m.excluded at count) device.Done device.Blocked may in
      absurd (cc)
  | inr not_so ↦ not_so
]

pub dma_done : (at : ℕ) (bytes : List ℕ) (m new : Contents) (spans : List Span) → HoldsAll m spans
    → device.Done ≡ device_end m.excluded at (length bytes) → new ≡ after_device_write m at bytes
    → Leaves (written_by_device at bytes (host_memory m spans)) new spans Done
dma_done at bytes m new spans h end is =
    let p = host_memory m spans in
    let may = done_may m at (length bytes) end in
    let open' : are_open p.spans at (length bytes)
    ≡ true = sym (may_write_open p m at (length bytes) h.stands) ∙ may in
    let change : new ≡ with_bytes m at bytes = is
    ∙ cond-true (may_write m.excluded at (length bytes)) (with_bytes m at bytes) m may in
    rw open' (leaves_so _ new spans Done (memory_written p m new at bytes h.stands change)
    (sym h.serve))

pub dma_blocked : (at : ℕ) (bytes : List ℕ) (m new : Contents) (spans : List Span)
    → HoldsAll m spans → device.Blocked ≡ device_end m.excluded at (length bytes)
    → new ≡ after_device_write m at bytes
    → Leaves (written_by_device at bytes (host_memory m spans)) new spans (Refused NoBlocked)
dma_blocked at bytes m new spans h end is =
    let p = host_memory m spans in
    let not_so = blocked_not m at (length bytes) end in
    let closed : are_open p.spans at (length bytes)
    ≡ false = sym (may_write_open p m at (length bytes) h.stands) ∙ not_so in
    let change : new ≡ m = is ∙ cond-false (may_write m.excluded at (length bytes))
    (with_bytes m at bytes) m not_so in
    rw (closed, change) (unchanged m spans (Refused NoBlocked) h)
