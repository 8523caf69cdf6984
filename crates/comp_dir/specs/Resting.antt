-- When a directory is at rest on the disk, and the calls that an install makes.
use Rattle.std.specs.Prelude.{ℕ}
use Rattle.dev_model.specs.Story.{Story, bytes_of, IsCalmAt, Calls}
use Rattle.gate.specs.Calls.{gated_calls}
use Rattle.comp_dir.specs.Places.{slot_start}
use Rattle.comp_dir.specs.Slots.{slot_bytes}
use Rattle.comp_dir.specs.Directory.{IsLooked}
use Rattle.comp_dir.specs.declared.slots.Slot.{Slot}

-- all that is looked at to read the directory is on the disk
abbrev pub IsAtRest : Story → Type 0
IsAtRest s = IsCalmAt (IsLooked (bytes_of s)) s

-- the bytes behind the gate, and then the gate, open
abbrev pub install_calls : ℕ → Slot → Calls
install_calls n slot = gated_calls (slot_start n) (slot_bytes slot)
