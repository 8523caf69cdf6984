-- The words of faults.
use Rattle.std.specs.Prelude.{ℕ, ◌≤◌, Result, IfErr}
use Rattle.dev_model.specs.Counts.{Rose}
use Rattle.comp_dir.specs.declared.faults.DirFault.{DirFault}
use Rattle.comp_dir.specs.declared.faults.DirFault.TheVariants.{Failed, BadSlot, OutOfMemory}

-- what a named slot says
abbrev pub WhereBad : DirFault → (ℕ → Type 0) → Type 0
WhereBad Failed P = Unit {0}
WhereBad (BadSlot n) P = P n
WhereBad OutOfMemory P = Unit {0}

-- a fault of the device has a count that rose
abbrev pub FaultRose : ℕ → ℕ → DirFault → Type 0
FaultRose before now Failed = Rose before now
FaultRose before now (BadSlot n) = Unit {0}
FaultRose before now OutOfMemory = Unit {0}

pub record HasCauseOfFault {T : Type 0} (before now : ℕ) (result : Result T DirFault) : Type 0 where
  pub later : before ≤ now
  pub failed : IfErr result (FaultRose before now)

-- no device is asked, so none failed
abbrev pub IsNotFailed : DirFault → Type 0
IsNotFailed Failed = ⊥
IsNotFailed (BadSlot n) = Unit {0}
IsNotFailed OutOfMemory = Unit {0}
