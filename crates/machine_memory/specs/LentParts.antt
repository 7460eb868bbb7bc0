-- What bytes end as, of which a part is lent.
use Rattle.std.specs.Prelude.{ℕ, List, length}
use Rattle.std.specs.List.{refill}
use Rattle.std.specs.Borrow.{Lends, MutBor, Fml, u8, Array}
use Rattle.machine_memory.specs.declared.block.Block.{Block}
use Rattle.machine_memory.specs.contracts.block.Block.{the_row}
use Rattle.machine_memory.specs.Writes.{lent_back}

-- the slice ends with what was written through the loan where the part is
abbrev pub LendsPart : MutBor (List ℕ) → ℕ → ℕ → MutBor (List ℕ) → Fml
LendsPart bytes at count loan =
    Lends (Array u8 0) (Array u8 0) bytes loan (lent_back bytes.now at count)

-- the block with other bytes in their stead, as many as it has
abbrev pub with_others : List ℕ → List ℕ → List ℕ
with_others block others = refill (length block) block others

-- it ends as what was written through the loan
abbrev pub LendsWhole : MutBor Block → MutBor (List ℕ) → Fml
LendsWhole block loan = Lends the_row (Array u8 0) block loan (with_others block.now)

-- it ends with what was written through the loan where the part is
abbrev pub LendsBytes : MutBor Block → ℕ → ℕ → MutBor (List ℕ) → Fml
LendsBytes block at count loan =
    Lends the_row (Array u8 0) block loan
    (λ piece. with_others block.now (lent_back block.now at count piece))
