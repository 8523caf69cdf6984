-- Where the slots stand on the device.
use Rattle.std.specs.Prelude.{ℕ, ◌+◌, ◌*◌}
use Rattle.comp_dir.specs.declared.places.TheConstants.{DIRECTORY_START, SLOT_BYTES}

-- the gate of a slot
abbrev pub slot_start : ℕ → ℕ
slot_start n = DIRECTORY_START + SLOT_BYTES * n
