-- What a contract sees of the source and the sink in memory.
use Rattle.std.specs.Prelude.{ℕ, List}

-- the bytes to come, the reads and faults so far, and the numbers of the reads that fail
pub record PlannedSource : Type 0 where
  pub left : List ℕ
  pub calls : ℕ
  pub faults : ℕ
  pub fail : List ℕ

-- the bytes that were taken, how many there may be, the writes and faults so far, and the numbers of the writes that fail
pub record PlannedSink : Type 0 where
  pub taken : List ℕ
  pub room : ℕ
  pub calls : ℕ
  pub faults : ℕ
  pub fail : List ℕ
