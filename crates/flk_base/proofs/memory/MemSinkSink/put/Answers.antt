use Rattle.std.proofs.Common.{refl, subst}
use Rattle.std.specs.Prelude.{Contains}
use Rattle.flk_base.specs.InMemory.{MemWriting}
use Rattle.flk_base.proofs.memory.MemSinkSink.put.Goals as goal

pub returns-then-is_failing-clause-failing : goal.returns-then-is_failing-clause-failing
returns-then-is_failing-clause-failing c = (
  λ same. subst (λ (w : MemWriting). Contains w.failing w.calls) c.self.view_is
      (rw c.deref.ensures.value at (c.is_failing.ensures.0 c.if-is_failing.true)),
  λ listed. refl,
)
