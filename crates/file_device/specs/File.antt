-- What contracts see of a device on a file.
use Rattle.std.specs.Prelude.{ℕ}

pub record FileState : Type 0 where
  pub pages : ℕ
  pub clock : ℕ
  pub faults : ℕ
