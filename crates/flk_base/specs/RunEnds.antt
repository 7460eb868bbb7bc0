-- How a call that reads a source and writes a sink may end, and what caused it.
use Rattle.std.specs.Prelude.{◌≡◌, ℕ, ◌≤◌}
use Rattle.flk_base.specs.declared.run_end.RunEnd.{RunEnd}
use Rattle.flk_base.specs.declared.run_end.RunEnd.TheVariants.{Done, Bad, ReadFault, Cut, NoMemory}
use Rattle.flk_base.specs.Causes.{Rose, IsCutBy}
use Rattle.flk_base.specs.Streams.{Intake, Output}

-- the same end, with what is wrong said in other terms
abbrev pub mapped_end : {B C : Type 0} → (B → C) → RunEnd B → RunEnd C
mapped_end as_other Done = Done
mapped_end as_other (Bad bad) = Bad (as_other bad)
mapped_end as_other ReadFault = ReadFault
mapped_end as_other (Cut fault) = Cut fault
mapped_end as_other NoMemory = NoMemory

-- the source counted a fault where a read failed, and at no other end
abbrev pub ReadHasCause : {B : Type 0} → RunEnd B → ℕ → ℕ → Type 0
ReadHasCause ReadFault before now = (before ≤ now) × Rose before now
ReadHasCause other before now = now ≡ before

-- the sink counted a fault where a put failed, and at no other end; memory runs out in a put only
-- where it may allocate
abbrev pub WriteHasCause : {B : Type 0} → RunEnd B → Output → Type 0
WriteHasCause (Cut fault) out = IsCutBy fault out.may_allocate out.old.faults out.new.faults
WriteHasCause other out = out.new.faults ≡ out.old.faults

-- the end is caused by what happened on the source and on the sink
pub record HasCauses {B : Type 0} (end : RunEnd B) (source : Intake) (out : Output) : Type 0 where
  pub read : ReadHasCause end source.old.faults source.new.faults
  pub write : WriteHasCause end out
