-- What a platform of lists has to do with one of digests.
use Rattle.std.specs.Prelude.{◌≡◌, Bool, true, false, List, Option, Some}
use Rattle.flk_base.specs.Plan.{Plan, Throughout, GivesOnly}
use Rattle.seal_device.specs.Commands.{act, compares}
use Rattle.seal_device.specs.Digests.{DigestDevice, digests as by_digests}
use Rattle.seal_device.specs.Lists.{lists as by_lists}
use Rattle.seal_device.specs.Ledger.{Ledger, noted, Fair}
use Rattle.job_store.specs.Simulated.{Simulated}
use Rattle.job_engine.specs.Commands.{AnyCommand, ToDevice, ToSlots, CyclePower, AnyReply, any_act, OfDevice}
use Rattle.script_text.specs.Grammar.{Request, SessionOf, UnsealOf, CheckOf}
use Rattle.flk_base.specs.Streams.{Intake, Output}
use Rattle.flk_base.specs.declared.run_end.RunEnd.{RunEnd}
use Rattle.flk_run.specs.declared.run.ScriptFault.{ScriptFault}
use Rattle.flk_run.specs.Platform.{ListPlatform, DigestPlatform, platform_digested}
use Rattle.flk_run.specs.Answers.{Answer}
use Rattle.flk_run.specs.Events.{script}
use Rattle.flk_run.specs.Runs.{Ran, requests_done}

-- a platform of lists by digests, beside an answer
abbrev pub step_digested : ListPlatform × Answer → DigestPlatform × Answer
step_digested end = (platform_digested end.0, end.1)

-- the commands that compare: some of those to the device
abbrev pub any_compares : AnyCommand → Bool
any_compares (ToDevice c) = compares c
any_compares (ToSlots c) = false
any_compares (CyclePower keep fill) = false

-- no command of the plan compares, whatever is replied
abbrev pub ComparesNothing : {X : Type 0} → Plan AnyCommand AnyReply X → Type 0
ComparesNothing plan = GivesOnly (λ c. any_compares c ≡ false) plan

-- no command compares that the plan gives, run by digests from this device and this disk on
abbrev pub NothingCompared : {X : Type 0} → Plan AnyCommand AnyReply X → DigestDevice × Simulated → Type 0
NothingCompared plan v = Throughout (any_act (act by_digests)) (λ c v. any_compares c ≡ false) plan v

-- no command compares that these requests give, one after another, from this platform on
abbrev pub NothingComparedBy : List Request → DigestPlatform → Type 0
NothingComparedBy requests p = NothingCompared (script p.around p.fuse requests) (p.device, p.disk)

-- each command to the device that these requests give, one after another, from this platform on, whose run has this
-- ledger, is fair
abbrev pub FairBy : List Request → DigestPlatform → Ledger → Type 0
FairBy requests p ledger =
    Throughout (any_act (noted by_digests)) (OfDevice (Fair by_digests)) (script p.around p.fuse requests)
    ((p.device, ledger), p.disk)

-- the requests whose events may compare: to run a session, whose code may unseal a blob, to unseal one,
-- and to check a quote
abbrev pub may_compare : Request → Bool
may_compare (SessionOf image inputs nonce var) = true
may_compare (UnsealOf blob var) = true
may_compare (CheckOf quote image inputs outputs end nonce texts) = true
may_compare other = false

-- from a platform of lists the same comes true of one that stands for the new platform of digests
pub record AgreesByLists (Comes : Option ListPlatform → Option ListPlatform → Type 0)
    (old : ListPlatform) (new : Option DigestPlatform) : Type 0 where
  pub left : ListPlatform
  pub stands : new ≡ Some (platform_digested left)
  pub comes : Comes (Some old) (Some left)

-- a run ended so by digests, and so it did by lists, from each platform of lists that stands for the old one, where no
-- command compared
pub record RanTwice (end : RunEnd ScriptFault) (s : Intake) (o : Output) (old new : Option DigestPlatform) : Type 0 where
  pub digests : Ran by_digests end s o old new
  pub lists : (p : ListPlatform) → old ≡ Some (platform_digested p)
      → NothingComparedBy (requests_done by_digests end s o old new digests) (platform_digested p)
      → AgreesByLists (Ran by_lists end s o) p new
