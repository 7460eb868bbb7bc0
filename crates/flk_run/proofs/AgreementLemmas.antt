-- By lists and by digests events and scripts do the same, and a script is one plan.
use Rattle.std.proofs.Common.{◌≡◌, ◌≢◌, inl, inr, ℕ, ◌+◌, Bool, true, false, List, [], ◌∷◌, ◌++◌, refl, ap, sym, subst, ◌∙◌}
use Rattle.std.specs.Prelude.{◌==◌, length, nat_le, nat_lt, Option, Some, None, Result, Ok, Err}
use Rattle.std.proofs.lemmas.Bool.{cases_Bool}
use Rattle.std.specs.Io.KnownBytes.{Appends}
use Rattle.flk_base.specs.Known.{AppendsPrefix}
use Rattle.flk_base.specs.Plan.{Plan, Return, Ask, ask, Machine, ◌>>=◌, run, Throughout, AnswerAlike, EndAlike}
use Rattle.flk_base.specs.PlanLaws.{run-bind, plans_alike, always_throughout, throughout-bind, only-bind}
use Rattle.flk_base.specs.Stop.{Limit, limited}
use Rattle.flk_base.specs.StopLaws.{only-limited}
use Rattle.flk_base.specs.Streams.{Intake, Output}
use Rattle.flk_base.specs.declared.run_end.RunEnd.{RunEnd}
use Rattle.flk_base.specs.declared.run_end.RunEnd.TheVariants as run_end
use Rattle.seal_device.specs.Commands.{compares, act}
use Rattle.seal_device.specs.Digests.{DigestDevice, digests}
use Rattle.seal_device.specs.Lists.{ListDevice, lists}
use Rattle.seal_device.specs.Rules.{Device, Rules}
use Rattle.seal_device.specs.Ledger.{Ledger, noted, Fair}
use Rattle.seal_device.specs.Agreement.{digested, Noted, Agrees}
use Rattle.seal_device.proofs.Plans.{fair_run}
use Rattle.job_store.specs.Simulated.{Simulated}
use Rattle.job_store.specs.declared.disk.DiskFailed.{DiskFailed}
use Rattle.job_store.specs.declared.sizes.TheConstants.{LONGEST_BLOB}
use Rattle.job_engine.specs.Commands.{AnyCommand, ToDevice, ToSlots, CyclePower, AnyReply, any_costs, any_act, OfDevice}
use Rattle.job_engine.proofs.Machines.{any_alike}
use Rattle.seal_device.proofs.Alike.{alike}
use Rattle.expr_text.specs.Variables.{Table}
use Rattle.expr_text.specs.Values.{value_of}
use Rattle.expr_text.specs.declared.value.ExprFault.{ExprFault}
use Rattle.expr_text.specs.declared.value.TheConstants.{LONGEST_VALUE}
use Rattle.slb_image.specs.Image.{pack}
use Rattle.slb_image.specs.Faults.{build_fault}
use Rattle.slb_image.specs.declared.fault.ImageFault.{ImageFault}
use Rattle.script_text.specs.Grammar.{Request, Nothing, ExtendBy, ReadOf, LetBe, ShowOf, ImageOf, TakeOf, GiveAt, PokeAt, PeekAt, DmaAt, SetRegOf, RegsOf, ArmAt, SessionOf, SeedOf, UnsealOf, CounterOf, RandomOf, QuoteOf, CheckOf, SlotOf, OverwriteOf}
use Rattle.script_text.specs.Lines.{script_lines}
use Rattle.flk_run.specs.declared.tasks.TheConstants.{NONCE_LEN}
use Rattle.flk_run.specs.declared.run.ScriptFault.{ScriptFault}
use Rattle.flk_run.specs.Platform.{Around, Platform, ListPlatform, DigestPlatform, platform_digested}
use Rattle.flk_run.specs.Answers.{Answer, line_of}
use Rattle.flk_run.specs.Events.{Outcome, Outcomes, answered_first, sync_if, overwrite_answer, plan_of, settlement, event, run_on, step, after, transcript_line, transcript, after_all, script, lines_of, after_outcomes}
use Rattle.flk_run.specs.Agreement.{step_digested, any_compares, ComparesNothing, NothingCompared, NothingComparedBy, FairBy, may_compare, AgreesByLists, RanTwice}
use Rattle.flk_run.specs.Tasks.{Task, Rest, Refuse, Extend, Read, Bind, Show, BindImage, Take, Give, Poke, Peek, Dma, SetRegister, ShowRegisters, Arm, RunSession, Seed, Unseal, ReadCounter, Draw, Quote, Check, ReadSlot, Overwrite, is_slot, slot_or_none, overwrite_or_refusal, task_or_fault, image_or_fault, peek_or_long, quote_or_nonce, counter_or_none, last_counter, task_of}
use Rattle.flk_run.specs.Script.{good_requests}
use Rattle.flk_run.specs.Runs.{Written, LineCut, AllDone, ReadShort, CutShort, Paused, Ran, requests_done}

-- ---- what compares nothing

-- the tasks that may compare
abbrev task_may : Task → Bool
task_may (RunSession image inputs nonce var) = true
task_may (Unseal blob var) = true
task_may (Check session quote) = true
task_may other = false

sync_compares : (w : Around) (written : Result (Unit {0}) DiskFailed)
    → ComparesNothing {X = Around × Answer} (sync_if written >>= λ done. Return (w, overwrite_answer done))
sync_compares w (Ok done) =
    let both : (false ≡ false) × ((reply : Result (Unit {0}) DiskFailed) → Unit {0}) = (refl, λ reply. tt) in both
sync_compares w (Err failed) = tt

task_compares : (task : Task) (w : Around) → task_may task ≡ false → ComparesNothing (plan_of task w)
task_compares Rest w none = tt
task_compares (Refuse why) w none = tt
task_compares (Extend r text) w none = (refl, λ reply. tt)
task_compares (Read r) w none = (refl, λ reply. tt)
task_compares (Bind name value) w none = tt
task_compares (Show bytes) w none = tt
task_compares (BindImage name image) w none = tt
task_compares (Take frames) w none = tt
task_compares (Give at) w none = tt
task_compares (Poke at bytes) w none = tt
task_compares (Peek at count) w none = tt
task_compares (Dma at bytes) w none = tt
task_compares (SetRegister reg n) w none = tt
task_compares ShowRegisters w none = tt
task_compares (Arm turn at bytes) w none = tt
task_compares (RunSession image inputs nonce var) w none = absurd (cc)
task_compares (Seed seed) w none = (refl, λ reply. tt)
task_compares (Unseal blob var) w none = absurd (cc)
task_compares (ReadCounter id) w none = (refl, λ reply. tt)
task_compares (Draw var) w none = (refl, λ reply. tt)
task_compares (Quote nonce var) w none = (refl, λ reply. tt)
task_compares (Check session quote) w none = absurd (cc)
task_compares (ReadSlot j s var) w none = (refl, λ reply. tt)
task_compares (Overwrite j s blob) w none =
    let rest : (reply : Result (Unit {0}) DiskFailed)
    → ComparesNothing {X = Around × Answer} (sync_if reply >>= λ done. Return (w, overwrite_answer done)) =
    λ reply. sync_compares w reply in (refl, rest)

value_may : (value : Result (List ℕ) ExprFault) (task : List ℕ → Task) → ((bytes : List ℕ) → task_may (task bytes) ≡ false)
    → task_may (task_or_fault value task) ≡ false
value_may (Ok bytes) task none = none bytes
value_may (Err fault) task none = refl

image_may : (name : List ℕ) (fault : Option ImageFault) (image : List ℕ) → task_may (image_or_fault name fault image) ≡ false
image_may name None image = refl
image_may name (Some fault) image = refl

peek_may : (at count : ℕ) → task_may (peek_or_long at count) ≡ false
peek_may at count = elim (cases_Bool (nat_lt LONGEST_VALUE count)) [
  | inl long ↦ rw long refl
  | inr short ↦ rw short refl
]

counter_may : (id : ℕ) → task_may (counter_or_none id) ≡ false
counter_may id = elim (cases_Bool (nat_le id last_counter)) [
  | inl low ↦ rw low refl
  | inr high ↦ rw high refl
]

quote_may : (nonce : List ℕ) (var : Option (List ℕ)) → task_may (quote_or_nonce nonce var) ≡ false
quote_may nonce var = elim (cases_Bool (length nonce == NONCE_LEN)) [
  | inl right ↦ rw right refl
  | inr wrong ↦ rw wrong refl
]

slot_may : (j s : ℕ) (var : Option (List ℕ)) → task_may (slot_or_none j s var) ≡ false
slot_may j s var = elim (cases_Bool (is_slot j s)) [
  | inl is ↦ rw is refl
  | inr is_none ↦ rw is_none refl
]

overwrite_may : (j s : ℕ) (blob : List ℕ) → task_may (overwrite_or_refusal j s blob) ≡ false
overwrite_may j s blob = elim (cases_Bool (is_slot j s)) [
  | inl is ↦ elim (cases_Bool (nat_le (length blob) LONGEST_BLOB)) [
    | inl short ↦ rw (is, short) refl
    | inr long ↦ rw (is, long) refl
  ]
  | inr is_none ↦ rw is_none refl
]

request_may : (request : Request) (table : Table) → may_compare request ≡ false → task_may (task_of request table) ≡ false
request_may Nothing table none = refl
request_may (ExtendBy r text) table none = value_may (value_of text table) (λ bytes. Extend r bytes) (λ bytes. refl)
request_may (ReadOf r) table none = refl
request_may (LetBe name value) table none = value_may (value_of value table) (λ bytes. Bind name bytes) (λ bytes. refl)
request_may (ShowOf value) table none = value_may (value_of value table) (λ bytes. Show bytes) (λ bytes. refl)
request_may (ImageOf name job entry budget code) table none =
    value_may (value_of code table) (λ bytes. image_or_fault name (build_fault entry budget bytes) (pack entry budget job bytes))
    (λ bytes. image_may name (build_fault entry budget bytes) (pack entry budget job bytes))
request_may (TakeOf frames) table none = refl
request_may (GiveAt at) table none = refl
request_may (PokeAt at bytes) table none = value_may (value_of bytes table) (λ value. Poke at value) (λ value. refl)
request_may (PeekAt at count) table none = peek_may at count
request_may (DmaAt at bytes) table none = value_may (value_of bytes table) (λ value. Dma at value) (λ value. refl)
request_may (SetRegOf reg n) table none = refl
request_may RegsOf table none = refl
request_may (ArmAt turn at bytes) table none = value_may (value_of bytes table) (λ value. Arm turn at value) (λ value. refl)
request_may (SessionOf image inputs nonce var) table none = absurd (cc)
request_may (SeedOf seed) table none = value_may (value_of seed table) (λ bytes. Seed bytes) (λ bytes. refl)
request_may (UnsealOf blob var) table none = absurd (cc)
request_may (CounterOf id) table none = counter_may id
request_may (RandomOf var) table none = refl
request_may (QuoteOf nonce var) table none =
    value_may (value_of nonce table) (λ bytes. quote_or_nonce bytes var) (λ bytes. quote_may bytes var)
request_may (CheckOf quote image inputs outputs end nonce texts) table none = absurd (cc)
request_may (SlotOf j s var) table none = slot_may j s var
request_may (OverwriteOf j s blob) table none =
    value_may (value_of blob table) (λ bytes. overwrite_or_refusal j s bytes) (λ bytes. overwrite_may j s bytes)

settlement_compares : (w : Around) (end : Limit × Option (Around × Answer)) → ComparesNothing (settlement w end)
settlement_compares w (left, Some end) = tt
settlement_compares w (left, None) = (refl, λ reply. tt)

-- an event that neither runs a session nor unseals a blob compares nothing
pub event_compares : (w : Around) (fuse : Limit) (request : Request) → may_compare request ≡ false
    → ComparesNothing (event w fuse request)
event_compares w fuse request none =
    let task = task_of request w.variables in
    only-bind (λ c. any_compares c ≡ false) (limited any_costs (plan_of task w) fuse) (settlement w)
    (only-limited any_costs (λ c. any_compares c ≡ false) (plan_of task w) fuse
    (task_compares task w (request_may request w.variables none)))
    (settlement_compares w)

-- two plans of which a fact holds throughout, one after the other, have it throughout
throughout_then : {C : Type 0} {Reply : C → Type 0} {X Y S : Type 0}
    (m : Machine C Reply S) (Fact : C → S → Type 0)
    (p : Plan C Reply X) (f : X → Plan C Reply Y) (s : S)
    → Throughout m Fact p s → Throughout m Fact (f (run m p s).1) (run m p s).0
    → Throughout m Fact (p >>= f) s
throughout_then m Fact (Return x) f s first rest = rest
throughout_then m Fact (Ask c next) f s first rest =
    (first.0, throughout_then m Fact (next (m c s).1) f (m c s).0 first.1 rest)

-- ---- events by lists and by digests

-- a device of digests beside a disk, and one of lists
abbrev DigestMachine : Type 0
DigestMachine = DigestDevice × Simulated

abbrev ListMachine : Type 0
ListMachine = ListDevice × Simulated

-- a device of digests is the one that a device of lists stands for, and the disks are one
abbrev Stands : ListMachine → DigestMachine → Type 0
Stands s t = (digested s.0 ≡ t.0) × (s.1 ≡ t.1)

device_alike : AnswerAlike (act lists) (act digests) (λ c e. compares c ≡ false) (λ d e. digested d ≡ e)
device_alike c d e nothing stands =
    subst (λ (e : DigestDevice). EndAlike (λ (d : ListDevice) (e : DigestDevice). digested d ≡ e) (act lists c d) (act digests c e)) stands
    (rw (alike c d nothing) (refl, refl))

-- where nothing is compared, no command to the device compares
of_device : (c : AnyCommand) (t : DigestMachine) → any_compares c ≡ false
    → OfDevice (λ c (e : DigestDevice). compares c ≡ false) c t
of_device (ToDevice c) t nothing = nothing
of_device (ToSlots c) t nothing = tt
of_device (CyclePower keep fill) t nothing = refl

commands_alike : AnswerAlike (any_act (act lists)) (any_act (act digests)) (λ c t. any_compares c ≡ false) Stands
commands_alike c s t nothing stands =
    any_alike (act lists) (act digests) (λ c e. compares c ≡ false) (λ d e. digested d ≡ e) device_alike c s t
    (of_device c t nothing) stands

-- a plan of which no command compares does by digests what it does by lists
plan_alike : {X : Type 0} (plan : Plan AnyCommand AnyReply X) (d : ListDevice) (disk : Simulated)
    → NothingCompared plan (digested d, disk)
    → EndAlike Stands (run (any_act (act lists)) plan (d, disk)) (run (any_act (act digests)) plan (digested d, disk))
plan_alike plan d disk nothing =
    plans_alike (any_act (act lists)) (any_act (act digests)) (λ c t. any_compares c ≡ false) Stands commands_alike plan
    (d, disk) (digested d, disk) nothing (refl, refl)

-- an event does by digests what it does by lists
pub event_alike : (request : Request) (p : ListPlatform)
    → NothingCompared (event p.around p.fuse request) (digested p.device, p.disk)
    → step digests request (platform_digested p) ≡ step_digested (step lists request p)
event_alike request p nothing =
    let both = plan_alike (event p.around p.fuse request) p.device p.disk nothing in
    rw (← both.0.0, ← both.0.1, ← both.1) refl

-- ---- a script as one plan

module _ {H M : Type 0} (R : Rules H M) where
  abbrev machine : Machine AnyCommand AnyReply (Device H M × Simulated)
  machine = any_act (act R)

  -- the first event, and then the rest
  first_then_rest : (w : Around) (fuse : Limit) (request : Request) (requests : List Request)
      (s : Device H M × Simulated) (e : (Device H M × Simulated) × Outcome) → run machine (event w fuse request) s ≡ e
      → run machine (script w fuse (request ∷ requests)) s
      ≡ (
        (run machine (script e.1.around e.1.fuse requests) e.0).0,
        answered_first e.1.answer
            (run machine (script e.1.around e.1.fuse requests) e.0).1,
      )
  first_then_rest w fuse request requests s e is =
      run-bind machine (event w fuse request)
      (λ end. script end.around end.fuse requests
      >>= λ rest. Return (answered_first end.answer rest)) s
      ∙ ap (λ (e : (Device H M × Simulated) × Outcome). run machine
      (script e.1.around e.1.fuse requests
      >>= λ rest. Return (answered_first e.1.answer rest)) e.0) is
      ∙ run-bind machine (script e.1.around e.1.fuse requests)
      (λ rest. Return (answered_first e.1.answer rest)) e.0

  pub one_plan_platform : (requests : List Request) (p : Platform H M)
      → after_outcomes (run_on R (script p.around p.fuse requests) p)
      ≡ after_all R requests p
  one_plan_platform [] p = refl
  one_plan_platform (r ∷ rs) p =
      ap (λ (end : (Device H M × Simulated) × Outcomes). after_outcomes end) (first_then_rest p.around p.fuse r rs (p.device, p.disk)
      (run_on R (event p.around p.fuse r) p) refl)
      ∙ one_plan_platform rs (after R r p)

  pub one_plan_transcript : (n : ℕ) (requests : List Request) (p : Platform H M)
      → lines_of n (run_on R (script p.around p.fuse requests) p).1.answers
      ≡ transcript R n requests p
  one_plan_transcript n [] p = refl
  one_plan_transcript n (r ∷ rs) p =
      ap (λ (end : (Device H M × Simulated) × Outcomes). lines_of n end.1.answers)
      (first_then_rest p.around p.fuse r rs (p.device, p.disk)
      (run_on R (event p.around p.fuse r) p) refl)
      ∙ ap (λ (rest : List ℕ). transcript_line R n r p ++ rest)
      (one_plan_transcript (n + 1) rs (after R r p))

-- ---- scripts by lists and by digests

-- the plan of a script ends alike on both
abbrev EndsAlike : List Request → ListPlatform → Type 0
EndsAlike requests p =
    EndAlike Stands (run_on lists (script p.around p.fuse requests) p)
    (run_on digests (script p.around p.fuse requests) (platform_digested p))

so_transcript : (n : ℕ) (requests : List Request) (p : ListPlatform) → EndsAlike requests p
    → transcript digests n requests (platform_digested p) ≡ transcript lists n requests p
so_transcript n requests p both =
    sym (one_plan_transcript digests n requests (platform_digested p))
    ∙ ap (λ (end : Outcomes). lines_of n end.answers) (sym both.1)
    ∙ one_plan_transcript lists n requests p

so_platform : (requests : List Request) (p : ListPlatform) → EndsAlike requests p
    → after_all digests requests (platform_digested p)
    ≡ platform_digested (after_all lists requests p)
so_platform requests p both =
    let left : DigestPlatform = after_outcomes (run_on digests (script p.around p.fuse requests) (platform_digested p)) in
    let same : left ≡ platform_digested (after_outcomes (run_on lists (script p.around p.fuse requests) p)) =
    rw (← both.0.0, ← both.0.1, ← both.1) refl in
    sym (one_plan_platform digests requests (platform_digested p))
    ∙ same
    ∙ ap platform_digested (one_plan_platform lists requests p)

-- where nothing is compared
nothing_ends : (requests : List Request) (p : ListPlatform) → NothingComparedBy requests (platform_digested p)
    → EndsAlike requests p
nothing_ends requests p nothing = plan_alike (script p.around p.fuse requests) p.device p.disk nothing

pub transcript_alike : (n : ℕ) (requests : List Request) (p : ListPlatform)
    → NothingComparedBy requests (platform_digested p)
    → transcript digests n requests (platform_digested p) ≡ transcript lists n requests p
transcript_alike n requests p nothing = so_transcript n requests p (nothing_ends requests p nothing)

pub platform_alike : (requests : List Request) (p : ListPlatform)
    → NothingComparedBy requests (platform_digested p)
    → after_all digests requests (platform_digested p)
    ≡ platform_digested (after_all lists requests p)
platform_alike requests p nothing = so_platform requests p (nothing_ends requests p nothing)

-- a ledger changes nothing else
unnoted : {H M X : Type 0} (R : Rules H M) (plan : Plan AnyCommand AnyReply X) (d : Device H M) (ledger : Ledger) (disk : Simulated)
    → EndAlike (λ w e. (w.0.0 ≡ e.0) × (w.1 ≡ e.1)) (run (any_act (noted R)) plan ((d, ledger), disk))
    (run (any_act (act R)) plan (d, disk))
unnoted {H} {M} R plan d ledger disk =
    let Alike : (Device H M × Ledger) × Simulated → Device H M × Simulated → Type 0 = λ w e. (w.0.0 ≡ e.0) × (w.1 ≡ e.1) in
    plans_alike (any_act (noted R)) (any_act (act R)) (OfDevice (λ c (e : Device H M). Unit {0})) Alike
    (any_alike (noted R) (act R) (λ c e. Unit {0}) (λ w e. w.0 ≡ e)
    (λ c w e fact same. (
      ap (λ (e : Device H M). (act R c e).0) same,
      ap (λ (e : Device H M). (act R c e).1) same,
    )))
    plan ((d, ledger), disk) (d, disk)
    (always_throughout (any_act (act R)) (OfDevice (λ c (e : Device H M). Unit {0})) always plan (d, disk)) (refl, refl)
  where
    always : (c : AnyCommand) (s : Device H M × Simulated) → OfDevice (λ c (e : Device H M). Unit {0}) c s
    always (ToDevice c) s = tt
    always (ToSlots c) s = tt
    always (CyclePower keep fill) s = tt

-- a command that is fair is answered alike
fair_alike : AnswerAlike (noted lists) (noted digests) (Fair digests) Agrees
fair_alike c w v fair agree = fair_run (ask c) w v (fair, tt) agree

-- where all that is compared is fair
fair_ends : (requests : List Request) (p : ListPlatform) (ledger : Ledger) → Noted p.device ledger
    → FairBy requests (platform_digested p) ledger → EndsAlike requests p
fair_ends requests p ledger is_noted fair =
    let plan = script p.around p.fuse requests in
    let known : Agrees (p.device, ledger) (digested p.device, ledger) =
    record { device = refl; ledger = refl; known = is_noted } in
    let both = plans_alike (any_act (noted lists)) (any_act (noted digests)) (OfDevice (Fair digests))
    (λ s t. Agrees s.0 t.0 × (s.1 ≡ t.1)) (any_alike (noted lists) (noted digests) (Fair digests) Agrees fair_alike)
    plan ((p.device, ledger), p.disk) ((digested p.device, ledger), p.disk) fair (known, refl) in
    let left = unnoted lists plan p.device ledger p.disk in
    let right = unnoted digests plan (digested p.device) ledger p.disk in (
      (
        ap digested (sym left.0.0) ∙ both.0.0.device ∙ right.0.0,
        sym left.0.1 ∙ both.0.1 ∙ right.0.1,
      ),
      sym left.1 ∙ both.1 ∙ right.1,
    )

pub fair_transcript : (n : ℕ) (requests : List Request) (p : ListPlatform) (ledger : Ledger)
    → Noted p.device ledger → FairBy requests (platform_digested p) ledger
    → transcript digests n requests (platform_digested p) ≡ transcript lists n requests p
fair_transcript n requests p ledger noted fair = so_transcript n requests p (fair_ends requests p ledger noted fair)

pub fair_platform : (requests : List Request) (p : ListPlatform) (ledger : Ledger)
    → Noted p.device ledger → FairBy requests (platform_digested p) ledger
    → after_all digests requests (platform_digested p)
    ≡ platform_digested (after_all lists requests p)
fair_platform requests p ledger noted fair = so_platform requests p (fair_ends requests p ledger noted fair)

-- what compares nothing in a script compares nothing in its first event, and in the rest
nothing_first : (request : Request) (requests : List Request) (p : DigestPlatform)
    → NothingComparedBy (request ∷ requests) p
    → NothingCompared (event p.around p.fuse request) (p.device, p.disk)
    × NothingComparedBy requests (after digests request p)
nothing_first request requests p nothing =
    let Fact : AnyCommand → DigestMachine → Type 0 = λ c s. any_compares c ≡ false in
    let both = throughout-bind (any_act (act digests)) Fact (event p.around p.fuse request)
    (λ end. script end.around end.fuse requests
    >>= λ rest. Return (answered_first end.answer rest)) (p.device, p.disk) nothing in
    let end = run_on digests (event p.around p.fuse request) p in (
      both.0,
      (throughout-bind (any_act (act digests)) Fact (script end.1.around end.1.fuse requests)
          (λ rest. Return (answered_first end.1.answer rest)) end.0 both.1).0,
    )

-- and the other way round
nothing_all : (request : Request) (requests : List Request) (p : DigestPlatform)
    → NothingCompared (event p.around p.fuse request) (p.device, p.disk)
    → NothingComparedBy requests (after digests request p)
    → NothingComparedBy (request ∷ requests) p
nothing_all request requests p first rest =
    let Fact : AnyCommand → DigestMachine → Type 0 = λ c s. any_compares c ≡ false in
    let end = run_on digests (event p.around p.fuse request) p in
    throughout_then (any_act (act digests)) Fact (event p.around p.fuse request)
    (λ end. script end.around end.fuse requests
    >>= λ rest. Return (answered_first end.answer rest)) (p.device, p.disk) first
    (throughout_then (any_act (act digests)) Fact (script end.1.around end.1.fuse requests)
    (λ rest. Return (answered_first end.1.answer rest)) end.0 rest tt)

-- what compares nothing in a script compares nothing in its first requests, and in the next one after these
nothing_before : (before : List Request) (request : Request) (p : DigestPlatform)
    → NothingComparedBy (before ++ request ∷ []) p
    → NothingComparedBy before p
    × NothingCompared (event (after_all digests before p).around (after_all digests before p).fuse request)
    ((after_all digests before p).device, (after_all digests before p).disk)
nothing_before [] request p nothing = (tt, (nothing_first request [] p nothing).0)
nothing_before (r ∷ rs) request p nothing =
    let both = nothing_first r (rs ++ request ∷ []) p nothing in
    let rest = nothing_before rs request (after digests r p) both.1 in
    (nothing_all r rs p both.0 rest.0, rest.1)

-- ---- runs by lists and by digests

-- requests that were done by digests are done by lists
record DoneByLists (requests : List Request) (out out' : Option (List ℕ)) (p : ListPlatform)
    (new : Option DigestPlatform) : Type 0 where
  stands : new ≡ Some (platform_digested (after_all lists requests p))
  done : Written lists requests out out' (Some p) (Some (after_all lists requests p))

done_alike : (requests : List Request) (out out' : Option (List ℕ)) (p : ListPlatform)
    (new : Option DigestPlatform) → Written digests requests out out'
    (Some (platform_digested p)) new → NothingComparedBy requests (platform_digested p)
    → DoneByLists requests out out' p new
done_alike requests out out' p new w nothing = record {
  stands = w.at ∙ ap Some (platform_alike requests p nothing);
  done = record {
    written = subst (λ (t : List ℕ). Appends out out' t)
        (transcript_alike 1 requests p nothing) w.written;
    at = refl;
  };
}

line_alike : (n : ℕ) (before : List Request) (request : Request) (p : ListPlatform)
    → NothingComparedBy (before ++ request ∷ []) (platform_digested p)
    → transcript_line digests n request (after_all digests before (platform_digested p))
    ≡ transcript_line lists n request (after_all lists before p)
line_alike n before request p nothing =
    let both = nothing_before before request (platform_digested p) nothing in
    let same = platform_alike before p both.0 in
    let there : NothingCompared (event (after_all lists before p).around (after_all lists before p).fuse request)
    (digested (after_all lists before p).device, (after_all lists before p).disk) =
    subst (λ (q : DigestPlatform). NothingCompared (event q.around q.fuse request) (q.device, q.disk)) same both.1 in
    ap (transcript_line digests n request) same
    ∙ ap (λ (end : DigestPlatform × Answer). line_of n end.1)
    (event_alike request (after_all lists before p) there)

record CutByLists (n : ℕ) (before : List Request) (request : Request) (out out' : Option (List ℕ))
    (p : ListPlatform) (new : Option DigestPlatform) : Type 0 where
  stands : new ≡ Some (platform_digested (after_all lists (before ++ request ∷ []) p))
  cut : LineCut lists n before request out out' (Some p)
      (Some (after_all lists (before ++ request ∷ []) p))

cut_alike : (n : ℕ) (before : List Request) (request : Request) (out out' : Option (List ℕ))
    (p : ListPlatform) (new : Option DigestPlatform)
    → LineCut digests n before request out out' (Some (platform_digested p)) new
    → NothingComparedBy (before ++ request ∷ []) (platform_digested p)
    → CutByLists n before request out out' p new
cut_alike n before request out out' p new c nothing =
    let line = line_alike n before request p nothing in
    let first = (nothing_before before request (platform_digested p) nothing).0 in
    record {
      stands = c.at ∙ ap Some (platform_alike (before ++ request ∷ []) p nothing);
      cut = record {
        some = subst (λ (t : List ℕ). t ≢ []) line c.some;
        written = subst (λ (t : List ℕ). AppendsPrefix out out'
            (transcript lists 1 before p) t) line
            (subst (λ (t : List ℕ). AppendsPrefix out out' t
            (transcript_line digests n request (after_all digests before (platform_digested p))))
            (transcript_alike 1 before p first) c.written);
        at = refl;
      };
    }

module _ (source source' out out' : Option (List ℕ)) (p : ListPlatform)
    (new : Option DigestPlatform) where
  all_alike : (bad : Option ScriptFault)
      → (a : AllDone digests source source' out out' (Some (platform_digested p)) new bad)
      → NothingComparedBy (good_requests 1 (script_lines a.taken a.ended)) (platform_digested p)
      → AgreesByLists (λ p q. AllDone lists source source' out out' p q bad) p new
  all_alike bad a nothing =
      let requests = good_requests 1 (script_lines a.taken a.ended) in
      let done = done_alike requests out out' p new a.done nothing in
      record {
        left = after_all lists requests p;
        stands = done.stands;
        comes = record { taken = a.taken; ended = a.ended; takes = a.takes; judged = a.judged; read = a.read; done = done.done; near = a.near };
      }

  short_alike : (a : ReadShort digests source source' out out' (Some (platform_digested p)) new)
      → NothingComparedBy (good_requests 1 (script_lines a.taken false)) (platform_digested p)
      → AgreesByLists (ReadShort lists source source' out out') p new
  short_alike a nothing =
      let requests = good_requests 1 (script_lines a.taken false) in
      let done = done_alike requests out out' p new a.done nothing in
      record {
        left = after_all lists requests p;
        stands = done.stands;
        comes =
            record { taken = a.taken; consumed = a.consumed; good = a.good; done = done.done };
      }

  cut_short_alike : (a : CutShort digests source source' out out' (Some (platform_digested p)) new)
      → NothingComparedBy (good_requests 1 a.reached.first ++ a.request ∷ []) (platform_digested p)
      → AgreesByLists (CutShort lists source source' out out') p new
  cut_short_alike a nothing =
      let before = good_requests 1 a.reached.first in
      let cut = cut_alike _ before a.request out out' p new a.cut nothing in
      record {
        left = after_all lists (before ++ a.request ∷ []) p;
        stands = cut.stands;
        comes =
            record { reached = a.reached; request = a.request; asks = a.asks; cut = cut.cut };
      }

  paused_alike : (a : Paused digests source source' out out' (Some (platform_digested p)) new)
      → NothingComparedBy (good_requests 1 a.reached.first) (platform_digested p)
      → AgreesByLists (Paused lists source source' out out') p new
  paused_alike a nothing =
      let requests = good_requests 1 a.reached.first in
      let done = done_alike requests out out' p new a.done nothing in
      record {
        left = after_all lists requests p;
        stands = done.stands;
        comes =
            record { reached = a.reached; may = a.may; done = done.done };
      }

-- a run by digests of which no command compared is one by lists
pub run_alike : (end : RunEnd ScriptFault) (s : Intake) (o : Output) (p : ListPlatform)
    (new : Option DigestPlatform) (ran : Ran digests end s o (Some (platform_digested p)) new)
    → NothingComparedBy (requests_done digests end s o (Some (platform_digested p)) new ran) (platform_digested p)
    → AgreesByLists (Ran lists end s o) p new
run_alike run_end.Done s o p new ran nothing =
    all_alike s.old.left s.new.left o.old.contents o.new.contents p new None ran nothing
run_alike (run_end.Bad first) s o p new ran nothing =
    all_alike s.old.left s.new.left o.old.contents o.new.contents p new (Some first) ran nothing
run_alike run_end.ReadFault s o p new ran nothing =
    short_alike s.old.left s.new.left o.old.contents o.new.contents p new ran nothing
run_alike (run_end.Cut fault) s o p new ran nothing =
    cut_short_alike s.old.left s.new.left o.old.contents o.new.contents p new ran nothing
run_alike run_end.NoMemory s o p new (inl unbegun) nothing =
    record {
      left = p;
      stands = unbegun.1.kept;
      comes = inl
          (unbegun.0, record { unwritten = unbegun.1.unwritten; kept = refl });
    }
run_alike run_end.NoMemory s o p new (inr paused) nothing =
    let again = paused_alike s.old.left s.new.left o.old.contents o.new.contents p new paused nothing in
    record { left = again.left; stands = again.stands; comes = inr again.comes }

-- the same from a platform that stands for the one of digests
pub run_from : (end : RunEnd ScriptFault) (s : Intake) (o : Output) (p : ListPlatform)
    (old new : Option DigestPlatform) → old ≡ Some (platform_digested p)
    → (ran : Ran digests end s o old new)
    → NothingComparedBy (requests_done digests end s o old new ran) (platform_digested p)
    → AgreesByLists (Ran lists end s o) p new
run_from end s o p old new stands =
    subst (λ (q : Option DigestPlatform). (ran : Ran digests end s o q new)
    → NothingComparedBy (requests_done digests end s o q new ran) (platform_digested p)
    → AgreesByLists (Ran lists end s o) p new) (sym stands) (run_alike end s o p new)

-- so a run by digests is one by lists where no command compared
pub ran_twice : (end : RunEnd ScriptFault) (s : Intake) (o : Output) (old new : Option DigestPlatform)
    → Ran digests end s o old new → RanTwice end s o old new
ran_twice end s o old new ran =
    record { digests = ran; lists = λ p stands nothing. run_from end s o p old new stands ran nothing }
