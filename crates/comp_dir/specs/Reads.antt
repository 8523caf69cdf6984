-- Reads of the directory's bytes alone, and what holds where they are on the disk.
use Rattle.std.specs.Prelude.{ℕ, ◌+◌, ◌≤◌, Option}
use Rattle.dev_model.specs.Story.{Bytes, DeviceState, Story, WhereTold, bytes_of}
use Rattle.dev_model.specs.Moments.{ReadsWithin}
use Rattle.comp_dir.specs.declared.places.TheConstants.{DIRECTORY_START, SLOTS}
use Rattle.comp_dir.specs.Places.{slot_start}
use Rattle.comp_dir.specs.Resting.{IsAtRest}

-- a range of the directory's bytes
pub record IsInDirectory (at count : ℕ) : Type 0 where
  pub from : DIRECTORY_START ≤ at
  pub to : at + count ≤ slot_start SLOTS

-- The story went on by reads of the directory's bytes alone.
abbrev pub ReadsDirectory : Story → Option Story → Type 0
ReadsDirectory s now = ReadsWithin IsInDirectory s now

-- The device tells that alone, where it tells.
abbrev pub OnlyReadsDirectory : DeviceState → DeviceState → Type 0
OnlyReadsDirectory old new = WhereTold old.story (λ s. ReadsDirectory s new.story)

-- what holds of the bytes of a device where the directory is on the disk
abbrev pub WhereAtRest : DeviceState → (Bytes → Type 0) → Type 0
WhereAtRest device P = WhereTold device.story (λ s. IsAtRest s → P (bytes_of s))
