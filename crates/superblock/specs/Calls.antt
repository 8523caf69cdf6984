-- The calls of a device that close its superblock and write it.
use Rattle.std.specs.Prelude.{◌≡◌, ◌==◌, ℕ, [], ◌∷◌, Bool, if◌then◌else◌}
use Rattle.dev_model.specs.Story.{Calls, Story, IsReadable, bytes_of}
use Rattle.gate.specs.Calls.{close_calls, gated_calls}
use Rattle.gate.specs.declared.gates.TheConstants.{OPEN}
use Rattle.superblock.specs.Superblock.{superblock_bytes}

-- what a read of the gate tells
abbrev pub TellsGate : Bool → Story → Type 0
TellsGate is_open s = IsReadable s.past 0 → is_open ≡ (bytes_of s 0 == OPEN)

-- the gate, closed where it was found open
abbrev pub close_superblock_if : Bool → Calls
close_superblock_if is_open = if is_open then close_calls 0 else []

-- the superblock behind its gate, and then the gate, open
abbrev pub write_superblock : (indexes pages : ℕ) → Calls
write_superblock indexes pages = gated_calls 0 (superblock_bytes indexes pages)
