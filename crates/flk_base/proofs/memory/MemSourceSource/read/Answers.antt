use Rattle.std.proofs.Common.{sym, ap, ◌∙◌, arith}
use Rattle.flk_base.proofs.PutLemmas.{moved_bytes, nothing_left}
use Rattle.flk_base.specs.InMemory.{MemReading}
use Rattle.flk_base.proofs.memory.MemSourceSource.read.Goals as goal

pub returns-clause-bytes : goal.returns-clause-bytes
returns-clause-bytes c =
    let read = c.self.inside in (
      sym (ap (λ (r : MemReading). r.left) c.self.view_is)
          ∙ moved_bytes read.bytes.items _ c.args.buf.now _ read.at c.min-count.result (omega arith)
          c.deref-2.ensures.value c.copy_from_slice.ensures.after,
      λ zero room. nothing_left read.bytes.items read.at c.min-count.result
          (omega (arith, c.requires)),
    )
