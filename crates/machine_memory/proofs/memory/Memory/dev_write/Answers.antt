use Rattle.std.proofs.Common.{◌≡◌, ℕ, List, length, refl, sym, ap, ◌∙◌, true, false}
use Rattle.std.proofs.lemmas.Bool.{both_ways}
use Rattle.std.proofs.lemmas.List.{with_items_is}
use Rattle.machine_memory.specs.Contents.{IsMemory}
use Rattle.machine_memory.specs.DeviceWrites.{may_write}
use Rattle.machine_memory.proofs.DeviceLemmas.{may_write-false, false-may_write, shut-closed}
use Rattle.machine_memory.proofs.DeviceLemmas.{closed-shut}
use Rattle.machine_memory.proofs.MemoryLemmas.{size_by_bits, open-taken, memory-device_done}
use Rattle.machine_memory.proofs.InBlocks.{in-written}
use Rattle.machine_memory.proofs.Inside.{contents_of}
use Rattle.machine_memory.proofs.memory.Memory.dev_write.Goals as goal

pub returns-then-not-may_write-clause-blocked : goal.returns-then-not-may_write-clause-blocked
returns-then-not-may_write-clause-blocked c =
    let memory : IsMemory c.args.self.now = rw (← c.self.view_is) c.self.invariant.memory in
    let bits : c.deref.result.now ≡ c.args.self.now.excluded = cc in
    let shut : may_write c.args.self.now.excluded c.args.at (length c.args.bytes.now) ≡ false =
    rw (← bits) (sym c.may_write.ensures ∙ c.if-not-may_write.true) in (
      λ e. shut-closed c.args.self.now c.args.at (length c.args.bytes.now)
          (size_by_bits c.args.self.now memory) (may_write-false _ _ _ shut),
      λ s. refl,
    )

pub write_spans-requires-clause-taken : goal.write_spans-requires-clause-taken
write_spans-requires-clause-taken c =
    let open' : may_write c.self.inside.excluded.items c.args.at (length c.args.bytes.now) ≡ true =
    rw (← c.deref.ensures.value) (sym c.may_write.ensures ∙ c.if-not-may_write.false) in
    λ address l h. open-taken (contents_of c.self.inside) c.args.at (length c.args.bytes.now) address
    c.self.invariant.memory open' l h

pub invariant_of-self : goal.invariant_of-self
invariant_of-self c =
    let open' : may_write c.self.inside.excluded.items c.args.at (length c.args.bytes.now) ≡ true =
    rw (← c.deref.ensures.value) (sym c.may_write.ensures ∙ c.if-not-may_write.false) in
    let blocks = c.self.inside.blocks in
    let now = c.write_spans.new.blocks in
    let value = c.deref_mut.ensures.value in
    let long : length now ≡ blocks.len =
    c.write_spans.auto.blocks ∙ ap (λ (xs : List (List ℕ)). length xs) value ∙ sym blocks.ok.0 in
    rw (with_items_is blocks now long)
    (in-written c.self.inside.pool c.self.inside.excluded.items blocks.items now c.args.at
    c.args.bytes.now
    (record { has = c.write_spans.ensures.sound; bytes = rw value at c.write_spans.ensures.written })
    (memory-device_done (contents_of c.self.inside) c.args.at c.args.bytes.now
    c.self.invariant.memory open'))

pub returns-clause-blocked : goal.returns-clause-blocked
returns-clause-blocked c =
    let memory : IsMemory c.args.self.now = rw (← c.self.view_is) c.self.invariant.memory in
    let bits : c.deref.result.now ≡ c.args.self.now.excluded = cc in
    let open' : may_write c.args.self.now.excluded c.args.at (length c.args.bytes.now) ≡ true =
    rw (← bits) (sym c.may_write.ensures ∙ c.if-not-may_write.false) in (
      λ e. cc,
      λ s. absurd
          (both_ways _
          (false-may_write _ _ _
          (closed-shut c.args.self.now c.args.at (length c.args.bytes.now)
          (size_by_bits c.args.self.now memory) s)) open'),
    )
