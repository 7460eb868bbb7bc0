-- The law of one command, and of plans with a fuse.
use Rattle.std.proofs.Common.{◌≡◌, ℕ, List, [], ◌++◌, true, false, Option, refl, sym, ◌∙◌, ap}
use Rattle.std.proofs.Common.{subst}
use Rattle.std.specs.Prelude.{⊤}
use Rattle.flk_base.specs.Plan.{Plan, run, EndAlike, AnswerAlike}
use Rattle.flk_base.specs.PlanLaws.{plans_alike, plans_keep, always_throughout, only-throughout}
use Rattle.flk_base.specs.PlanLaws.{throughout_both, throughout_from_end}
use Rattle.flk_base.specs.Stop.{Limit, limited, Fused, with_fuse, end_of, fused}
use Rattle.flk_base.specs.StopLaws.{only-limited}
use Rattle.std.proofs.lemmas.List.Elements.{Contains-append_left}
use Rattle.seal_device.specs.Rules.{Device, Rules}
use Rattle.seal_device.specs.Commands.{Command, Unseal, CheckNext, Check, Increment, Reply, act}
use Rattle.seal_device.specs.Commands.{blank}
use Rattle.seal_device.specs.Commands.{compares, costs}
use Rattle.seal_device.specs.Digests.{DigestDevice, digests, on_device}
use Rattle.seal_device.specs.Ledger.{Ledger, no_ledger, Clean, Unforged, Fair, noted, hashed_by}
use Rattle.seal_device.specs.Ledger.{made_by, quoted_by, ledger_after}
use Rattle.seal_device.specs.Lists.{ListDevice, lists}
use Rattle.seal_device.specs.Agreement.{digested, fused_digested, end_digested, Noted, Agrees}
use Rattle.seal_device.specs.Agreement.{FusedAgree, FairPlan, UnforgedPlan, ComparesNothing}
use Rattle.seal_device.proofs.Alike.{Alike, alike, hashed_alike}
use Rattle.seal_device.proofs.Known.{with_more, stays_noted, blank_noted}
use Rattle.seal_device.proofs.Openings.{unseal_alike, check_next_alike, increment_alike}
use Rattle.seal_device.proofs.Quotes.{check_alike}

-- ---- plans that compare nothing

-- one stands for the other
abbrev StandsFor : ListDevice → DigestDevice → Type 0
StandsFor d e = digested d ≡ e

-- the law of one command that compares nothing
alike_law : AnswerAlike (act lists) (act digests) (λ c e. compares c ≡ false) StandsFor
alike_law c d e nothing same =
    subst (λ (e : DigestDevice). EndAlike StandsFor (act lists c d) (act digests c e)) same (
      ap (λ (end : DigestDevice × Reply c). end.0) (sym at),
      ap (λ (end : DigestDevice × Reply c). end.1) (sym at),
    ) where
      at : Alike c d
      at = alike c d nothing

-- runs that end alike, as one equation of plans with a fuse
one_end : {X : Type 0} (plan : Plan Command Reply X) (before : Fused ListDevice) →
    EndAlike StandsFor (run (act lists) (limited costs plan before.fuse) before.state)
    (run (act digests) (limited costs plan before.fuse) (digested before.state)) →
    on_device plan (fused_digested before) ≡ end_digested (fused costs (act lists) plan before)
one_end {X} plan before both =
    let short = limited costs plan before.fuse in
    let d = before.state in
    sym (ap (λ (e : DigestDevice). end_of {X = X} (e, (run (act lists) short d).1)) both.0
    ∙ ap (λ (v : Limit × Option X). end_of ((run (act digests) short (digested d)).0, v)) both.1)

-- a plan that compares nothing ends alike on both, wherever its fuse stops it
pub digested_plan : {X : Type 0} (plan : Plan Command Reply X) (before : Fused ListDevice) →
    ComparesNothing plan →
    on_device plan (fused_digested before) ≡ end_digested (fused costs (act lists) plan before)
digested_plan plan before nothing =
    let short = limited costs plan before.fuse in
    let d = before.state in
    let only = only-limited costs (λ c. compares c ≡ false) plan before.fuse nothing in
    let both = plans_alike (act lists) (act digests) (λ c e. compares c ≡ false) StandsFor alike_law
    short d (digested d)
    (only-throughout (act digests) (λ c. compares c ≡ false) short (digested d) only) refl in
    one_end plan before both

-- ---- fair plans

-- the first of strings that are clean are clean
clean_before : (h more : List (List ℕ)) → Clean (h ++ more) → Clean h
clean_before h more clean = record {
  apart = λ x y one other.
      clean.apart x y (Contains-append_left h more x one) (Contains-append_left h more y other);
  no_start = λ x one. clean.no_start x (Contains-append_left h more x one);
}

-- a command that is fair is answered alike
fair_alike : (c : Command) (d : ListDevice) (ledger : Ledger) →
    Fair digests c (digested d, ledger) →
    Noted d ledger → Alike c d
fair_alike (Unseal bytes) d ledger fair noted =
    let here = fair refl in
    unseal_alike bytes d ledger noted (clean_before ledger.hashed [] here.0) here.1
fair_alike (CheckNext bytes) d ledger fair noted =
    let here = fair refl in
    check_next_alike bytes d ledger noted (clean_before ledger.hashed [] here.0) here.1
fair_alike (Check claim bytes) d ledger fair noted =
    let here = fair refl in check_alike claim bytes d ledger noted here.0 here.1
fair_alike (Increment id) d ledger fair noted =
    let here = fair refl in
    increment_alike id d ledger noted (clean_before ledger.hashed [] here.0)
fair_alike c d ledger fair noted = alike c d refl

-- the law of one command: where it is fair it is answered alike, and agreement is kept
fair_law : AnswerAlike (noted lists) (noted digests) (Fair digests) Agrees
fair_law c w v fair agree =
    let same = ap (λ (e : DigestDevice). let one : DigestDevice × Ledger = (e, w.1) in one)
    agree.device
    ∙ ap (λ (ledger : Ledger). (v.0, ledger)) agree.ledger in
    subst (λ (v : DigestDevice × Ledger).
    Fair digests c v → EndAlike Agrees (noted lists c w) (noted digests c v)) same at fair where
      at : Fair digests c (digested w.0, w.1) →
          EndAlike Agrees (noted lists c w) (noted digests c (digested w.0, w.1))
      at fair =
          let one = fair_alike c w.0 w.1 fair agree.known in (
            record {
              device = ap (λ (end : DigestDevice × Reply c). end.0) (sym one);
              ledger =
                  ap (λ (more : List (List ℕ)).
                  with_more w.1 more (made_by c (act lists c w.0).1) (quoted_by c (act lists c w.0).1))
                  (sym (hashed_alike c w.0))
                  ∙ ap (λ (end : DigestDevice × Reply c).
                  with_more w.1 (hashed_by digests c (digested w.0)) (made_by c end.1)
                  (quoted_by c end.1)) (sym one);
              known = stays_noted c w.0 w.1 agree.known;
            },
            ap (λ (end : DigestDevice × Reply c). end.1) (sym one),
          )

-- a fair plan ends alike on both
pub fair_run : {X : Type 0} (plan : Plan Command Reply X)
    (w : ListDevice × Ledger) (v : DigestDevice × Ledger) → FairPlan plan v → Agrees w v →
    EndAlike Agrees (run (noted lists) plan w) (run (noted digests) plan v)
fair_run plan w v fair agree =
    plans_alike (noted lists) (noted digests) (Fair digests) Agrees fair_law plan w v fair agree

-- so it does with a fuse, if it is fair as far as that lets it run
pub fair_plan : {X : Type 0} (plan : Plan Command Reply X) (fuse : Limit)
    (w : ListDevice × Ledger) (v : DigestDevice × Ledger) →
    FairPlan (limited costs plan fuse) v → Agrees w v →
    EndAlike FusedAgree (fused costs (noted lists) plan (with_fuse w fuse))
    (fused costs (noted digests) plan (with_fuse v fuse))
fair_plan {X} plan fuse w v fair agree =
    let both = fair_run (limited costs plan fuse) w v fair agree in (
      record { state = both.0; fuse = ap (λ (end : Limit × Option X). end.0) both.1 },
      ap (λ (end : Limit × Option X). end.1) both.1,
    )

-- a ledger changes nothing else
pub unnoted : {H M X : Type 0} (R : Rules H M) (plan : Plan Command Reply X) (d : Device H M)
    (ledger : Ledger) →
    EndAlike (λ w e. w.0 ≡ e) (run (noted R) plan (d, ledger)) (run (act R) plan d)
unnoted {H} {M} R plan d ledger =
    plans_alike (noted R) (act R) (λ c e. ⊤) (λ w e. w.0 ≡ e)
    (λ c w e fact same. (
      ap (λ (e : Device H M). (act R c e).0) same,
      ap (λ (e : Device H M). (act R c e).1) same,
    ))
    plan (d, ledger) d (always_throughout (act R) (λ c e. ⊤) (λ c e. tt) plan d) refl

-- and without the ledgers it does, as one equation
pub fair_digested : {X : Type 0} (plan : Plan Command Reply X) (before : Fused ListDevice)
    (ledger : Ledger) →
    FairPlan (limited costs plan before.fuse) (digested before.state, ledger) →
    Noted before.state ledger →
    on_device plan (fused_digested before) ≡ end_digested (fused costs (act lists) plan before)
fair_digested plan before ledger fair noted =
    let short = limited costs plan before.fuse in
    let d = before.state in
    let known : Agrees (d, ledger) (digested d, ledger) =
    record { device = refl; ledger = refl; known = noted } in
    let both = fair_run short (d, ledger) (digested d, ledger) fair known in
    let left = unnoted lists short d ledger in
    let right = unnoted digests short (digested d) ledger in
    one_end plan before
    (ap digested (sym left.0) ∙ both.0.device ∙ right.0, sym left.1 ∙ both.1 ∙ right.1)

-- a plan that compares nothing is fair
pub fair_nothing : {X : Type 0} (plan : Plan Command Reply X) (v : DigestDevice × Ledger) →
    ComparesNothing plan → FairPlan plan v
fair_nothing plan v nothing =
    let Nothing : Command → DigestDevice × Ledger → Type 0 = λ c v. compares c ≡ false in
    let throughout = only-throughout (noted digests) (λ c. compares c ≡ false) plan v nothing in
    throughout_both (noted digests) Nothing Nothing (Fair digests)
    (λ c v one same comparing. absurd (let clash : false ≡ true = sym one ∙ comparing in cc))
    plan v throughout throughout

-- what each command keeps, a plan with a fuse keeps
pub plan_noted : {X : Type 0} (plan : Plan Command Reply X)
    (before : Fused (ListDevice × Ledger)) → Noted before.state.0 before.state.1 →
    Noted (fused costs (noted lists) plan before).0.state.0
    (fused costs (noted lists) plan before).0.state.1
plan_noted plan before known =
    plans_keep (noted lists) (λ w. Noted w.0 w.1) (λ c w known. stays_noted c w.0 w.1 known)
    (limited costs plan before.fuse) before.state known

-- ---- whole runs

-- a plan is fair as far as its fuse lets it run, if what was hashed is clean where it ends
pub clean_plan : {X : Type 0} (plan : Plan Command Reply X)
    (before : Fused (DigestDevice × Ledger)) →
    Clean (fused costs (noted digests) plan before).0.state.1.hashed →
    UnforgedPlan (limited costs plan before.fuse) before.state →
    FairPlan (limited costs plan before.fuse) before.state
clean_plan plan before clean unforged =
    let CleanHere : Command → DigestDevice × Ledger → Type 0 =
    λ c v. Clean (ledger_after digests c v.0 v.1).hashed in
    let short = limited costs plan before.fuse in
    throughout_both (noted digests) CleanHere Unforged (Fair digests)
    (λ c v one other comparing. (one, other))
    short before.state
    (throughout_from_end (noted digests) (λ v. Clean v.1.hashed) CleanHere
    (λ c v clean. clean_before v.1.hashed (hashed_by digests c v.0) clean)
    (λ c v clean. clean)
    short before.state clean)
    unforged

-- from devices that were never used
pub clean_digested : {X : Type 0} (plan : Plan Command Reply X) (fuse : Limit) →
    Clean (fused costs (noted digests) plan
    (with_fuse (blank digests, no_ledger) fuse)).0.state.1.hashed →
    UnforgedPlan (limited costs plan fuse) (blank digests, no_ledger) →
    on_device plan (with_fuse (blank digests) fuse)
    ≡ end_digested (fused costs (act lists) plan (with_fuse (blank lists) fuse))
clean_digested plan fuse clean unforged =
    fair_digested plan (with_fuse (blank lists) fuse) no_ledger
    (clean_plan plan (with_fuse (blank digests, no_ledger) fuse) clean unforged)
    blank_noted
