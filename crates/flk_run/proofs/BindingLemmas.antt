-- That a name which a command's event binds is bound to what it shows.
use Rattle.std.proofs.Common.{◌≡◌, ℕ, List, refl, sym, ap, ◌∙◌, Option, Some, None, Result, Ok, Err}
use Rattle.flk_base.specs.Plan.{Return, ask, ◌>>=◌}
use Rattle.flk_base.specs.Stop.{Fused, then_fused}
use Rattle.flk_base.specs.StopLaws.{fused-bind}
use Rattle.seal_device.specs.Commands as command
use Rattle.seal_device.specs.Digests.{digests}
use Rattle.job_store.specs.declared.disk.DiskFailed.{DiskFailed}
use Rattle.job_store.specs.Commands as slots
use Rattle.job_engine.specs.Commands.{AnyCommand, ToDevice, ToSlots, AnyReply, any_costs}
use Rattle.seal_device.specs.Refusals.Unseal as unseals
use Rattle.seal_device.specs.Refusals.Quote as quotes
use Rattle.seal_device.specs.Refusals.Random as randoms
use Rattle.flk_run.specs.Answers.{Answer}
use Rattle.flk_run.specs.Platform.{Around, DigestPlatform}
use Rattle.flk_run.specs.Events.{after_unseal, after_draw, after_quote, after_read_slot, plan_of, task_step}
use Rattle.flk_run.specs.Sessions.{shown_in, table_with}
use Rattle.flk_run.specs.Tasks as task
use Rattle.flk_run.specs.Tasks.{Task}
use Rattle.job_engine.specs.Whole.{on_both}
use Rattle.flk_run.proofs.SessionLemmas.{DigestMachine, machine, fused_machine, settled, stop_settled}

-- what is around where a name was bound to what an answer shows, if it does, beside the answer
abbrev bound_around : List ℕ → Around × Answer → Around × Answer
bound_around name end =
    (record end.0 { variables = table_with name (shown_in end.1) end.0.variables }, end.1)

-- a platform on which a name was bound so, beside the answer
abbrev pub shown_too : Option (List ℕ) → DigestPlatform × Answer → DigestPlatform × Answer
shown_too None end = end
shown_too (Some name) end = (
  record end.0 { around = record end.0.around { variables = table_with name (shown_in end.1) end.0.around.variables } },
  end.1,
)

module _ (p : DigestPlatform) (c : AnyCommand) (after : Option (List ℕ) → AnyReply c → Around × Answer)
    (task : Option (List ℕ) → Task)
    (plan : (var : Option (List ℕ)) → plan_of (task var) p.around ≡ (ask c >>= λ reply. Return (after var reply)))
    (binds : (name : List ℕ) (reply : AnyReply c) → after (Some name) reply ≡ bound_around name (after None reply)) where
  abbrev settled_with : Option (List ℕ) → Fused DigestMachine × Option (AnyReply c) → DigestPlatform × Answer
  settled_with var ran = settled p.around (then_fused any_costs machine (λ reply. Return (after var reply)) ran)

  step_at : (var : Option (List ℕ))
      → task_step digests (task var) p ≡ settled_with var (on_both (ask c) (fused_machine p))
  step_at var =
      stop_settled p.around (plan_of (task var) p.around) (fused_machine p)
      ∙ ap (λ plan. settled p.around (on_both plan (fused_machine p))) (plan var)
      ∙ ap (settled p.around) (fused-bind any_costs machine (ask c) (λ reply. Return (after var reply)) (fused_machine p))

  binds_then : (var : Option (List ℕ)) (ran : Fused DigestMachine × Option (AnyReply c))
      → settled_with var ran ≡ shown_too var (settled_with None ran)
  binds_then None ran = refl
  binds_then (Some name) (left, None) = refl
  binds_then (Some name) (left, Some reply) = rw (binds name reply) refl

  command_binds : (var : Option (List ℕ))
      → task_step digests (task var) p ≡ shown_too var (task_step digests (task None) p)
  command_binds var =
      step_at var
      ∙ binds_then var (on_both (ask c) (fused_machine p))
      ∙ ap (shown_too var) (sym (step_at None))

-- the name of an unseal
pub unseal_binds : (p : DigestPlatform) (blob : List ℕ) (var : Option (List ℕ))
    → task_step digests (task.Unseal blob var) p ≡ shown_too var (task_step digests (task.Unseal blob None) p)
unseal_binds p blob =
    command_binds p (ToDevice (command.Unseal blob)) (λ var reply. after_unseal var reply p.around) (task.Unseal blob) (λ var. refl) each
  where
    each : (name : List ℕ) (reply : Result (List ℕ) unseals.Refusal)
        → after_unseal (Some name) reply p.around ≡ bound_around name (after_unseal None reply p.around)
    each name (Ok bytes) = refl
    each name (Err refusal) = refl

-- the name of a draw
pub draw_binds : (p : DigestPlatform) (var : Option (List ℕ))
    → task_step digests (task.Draw var) p ≡ shown_too var (task_step digests (task.Draw None) p)
draw_binds p =
    command_binds p (ToDevice command.Random) (λ var reply. after_draw var reply p.around) task.Draw (λ var. refl) each
  where
    each : (name : List ℕ) (reply : Result (List ℕ) randoms.Refusal)
        → after_draw (Some name) reply p.around ≡ bound_around name (after_draw None reply p.around)
    each name (Ok word) = refl
    each name (Err refusal) = refl

-- the name of a slot
pub slot_binds : (p : DigestPlatform) (j s : ℕ) (var : Option (List ℕ))
    → task_step digests (task.ReadSlot j s var) p ≡ shown_too var (task_step digests (task.ReadSlot j s None) p)
slot_binds p j s =
    command_binds p (ToSlots (slots.ReadSlot j s)) (λ var reply. after_read_slot var reply p.around) (task.ReadSlot j s) (λ var. refl) each
  where
    each : (name : List ℕ) (reply : Result (Option (List ℕ)) DiskFailed)
        → after_read_slot (Some name) reply p.around ≡ bound_around name (after_read_slot None reply p.around)
    each name (Ok (Some blob)) = refl
    each name (Ok None) = refl
    each name (Err failed) = refl

-- the name of a quote
pub quote_binds : (p : DigestPlatform) (nonce : List ℕ) (var : Option (List ℕ))
    → task_step digests (task.Quote nonce var) p ≡ shown_too var (task_step digests (task.Quote nonce None) p)
quote_binds p nonce =
    command_binds p (ToDevice (command.Quote nonce)) (λ var reply. after_quote var reply p.around) (task.Quote nonce) (λ var. refl) each
  where
    each : (name : List ℕ) (reply : Result (List ℕ) quotes.Refusal)
        → after_quote (Some name) reply p.around ≡ bound_around name (after_quote None reply p.around)
    each name (Ok bytes) = refl
    each name (Err quotes.Unprovisioned) = refl
