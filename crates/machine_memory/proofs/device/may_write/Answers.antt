use Rattle.std.proofs.Common.{sym, ◌∙◌, refl, arith}
use Rattle.machine_memory.proofs.DeviceLemmas.{true-may_write, may_write-past, may_write-frames}
use Rattle.machine_memory.proofs.device.may_write.Goals as goal
use Rattle.machine_memory.proofs.device.may_write.Goals.{then-at-size-via-then-at-size}
use Rattle.machine_memory.proofs.device.may_write.Goals.{then-at-size-via-else-at-size+then-count-size}

pub returns-then-count-eq0 : goal.returns-then-count-eq0
returns-then-count-eq0 c =
    let none = c.if-count-eq0.true in
    sym (true-may_write _ _ _ (λ address l h. absurd (omega arith)))

pub returns-then-at-size : goal.returns-then-at-size
returns-then-at-size c =
    let some = c.if-count-eq0.false in
    elim c.then-at-size.branch [
      | then-at-size-via-then-at-size w ↦ sym
          (may_write-past _ _ _ (omega arith) (let l = w.if-at-size.true in omega arith))
      | then-at-size-via-else-at-size+then-count-size w ↦ sym
          (may_write-past _ _ _ (omega arith) (let l = w.if-count-size.true in let m =
          w.if-at-size.false in omega arith))
    ]

pub returns : goal.returns
returns c =
    let some = c.if-count-eq0.false in
    let here = c.if-at-size.false in
    let fits = c.if-count-size.false in
    c.is_clear.ensures
    ∙ may_write-frames c.args.excluded.now c.args.at c.args.count _ _ (omega arith)
    (omega arith) refl refl
