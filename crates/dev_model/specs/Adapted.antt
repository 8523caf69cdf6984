-- What a contract sees of std's reader or writer as a source or a sink.
use Rattle.std.specs.Prelude.{ℕ}

-- the reader or the writer, and how many of its calls failed
pub record Adapted (T : Type 0) : Type 0 where
  pub inner : T
  pub faults : ℕ
