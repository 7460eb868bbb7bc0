use Rattle.std.proofs.Common.{◌≡◌, ℕ, List, Bool, length, map, ap, sym, ◌∙◌}
use Rattle.std.proofs.lemmas.List.{with_items_is, length-map}
use Rattle.machine_memory.proofs.BlockChanges.{wiped}
use Rattle.machine_memory.proofs.InBlocks.{in-cycle, contents-cycle}
use Rattle.machine_memory.proofs.memory.Memory.power_cycle.Goals as goal

pub invariant_of-self : goal.invariant_of-self
invariant_of-self c =
    let blocks = c.self.inside.blocks in
    let excluded = c.self.inside.excluded in
    let now : c.wipe_blocks.new.blocks ≡ map wiped blocks.items =
    c.wipe_blocks.ensures ∙ ap (λ (xs : List (List ℕ)). map wiped xs) c.deref_mut.ensures.value in
    let long : length c.wipe_blocks.new.blocks ≡ blocks.len =
    ap (λ (xs : List (List ℕ)). length xs) now ∙ length-map blocks.items wiped ∙ sym blocks.ok.0 in
    let bits_long : length c.exclude_free.new.excluded ≡ excluded.len =
    c.exclude_free.auto.excluded ∙ ap (λ (xs : List Bool). length xs) c.deref_mut-2.ensures.value
    ∙ sym excluded.ok.0 in
    rw (
      with_items_is excluded c.exclude_free.new.excluded bits_long,
      with_items_is blocks c.wipe_blocks.new.blocks long,
      c.exclude_free.ensures,
      now,
    ) (in-cycle c.self.inside.pool excluded.items blocks.items c.self.invariant)

pub returns : goal.returns
returns c =
    let blocks = c.self.inside.blocks in
    let excluded = c.self.inside.excluded in
    let now : c.wipe_blocks.new.blocks ≡ map wiped blocks.items =
    c.wipe_blocks.ensures ∙ ap (λ (xs : List (List ℕ)). map wiped xs) c.deref_mut.ensures.value in
    let long : length c.wipe_blocks.new.blocks ≡ blocks.len =
    ap (λ (xs : List (List ℕ)). length xs) now ∙ length-map blocks.items wiped ∙ sym blocks.ok.0 in
    let bits_long : length c.exclude_free.new.excluded ≡ excluded.len =
    c.exclude_free.auto.excluded ∙ ap (λ (xs : List Bool). length xs) c.deref_mut-2.ensures.value
    ∙ sym excluded.ok.0 in
    rw (
      ← c.self.view_is,
      with_items_is excluded c.exclude_free.new.excluded bits_long,
      with_items_is blocks c.wipe_blocks.new.blocks long,
      c.exclude_free.ensures,
      now,
    ) (contents-cycle c.self.inside.pool excluded.items blocks.items c.self.invariant)
