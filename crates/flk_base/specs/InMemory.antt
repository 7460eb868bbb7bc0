-- What contracts see of the source and the sink in memory.
use Rattle.std.specs.Prelude.{ℕ, List}

-- the bytes that are left, the numbers of the reads that fail, the most bytes that a read gives,
-- and how many reads and faults there have been
pub record MemReading : Type 0 where
  pub left : List ℕ
  pub failing : List ℕ
  pub piece : ℕ
  pub calls : ℕ
  pub faults : ℕ

-- the bytes that were put, the numbers of the puts that fail, and how many puts and faults there
-- have been
pub record MemWriting : Type 0 where
  pub contents : List ℕ
  pub failing : List ℕ
  pub calls : ℕ
  pub faults : ℕ
