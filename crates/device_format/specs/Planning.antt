-- The calls of a device that formatting it makes.
use Rattle.std.specs.Prelude.{◌+◌, ◌*◌, ℕ, zero, suc, [], ◌∷◌, ◌++◌, Bool, Result}
use Rattle.dev_model.specs.Story.{Read, Write, Sync, Calls, DeviceState, WhereTold}
use Rattle.dev_model.specs.Doing.{Made}
use Rattle.gate.specs.declared.gates.TheConstants.{CLOSED}
use Rattle.wal_log.specs.Places.{segment_start}
use Rattle.wal_log.specs.State.{start_calls}
use Rattle.superblock.specs.Calls.{TellsGate, close_superblock_if, write_superblock}
use Rattle.comp_dir.specs.Places.{slot_start}
use Rattle.comp_dir.specs.declared.places.TheConstants.{SLOTS}
use Rattle.format_numbers.specs.declared.TheConstants.{LOG_START}

-- the place of a gate, where the first stands here and each next one a step behind
abbrev pub gate_at : (start step n : ℕ) → ℕ
gate_at start step n = start + step * n

-- the gates from this number on, so many, closed
unfoldable pub close_from : (gate : ℕ → ℕ) (n count : ℕ) → Calls
close_from gate n zero = []
close_from gate n (suc count) = Write (gate n) (CLOSED ∷ []) ∷ close_from gate (n + 1) count

-- the gate of each slot and the gate of each segment's header, and one sync
abbrev pub close_gates : Calls
close_gates = close_from slot_start 0 SLOTS ++ (close_from (segment_start LOG_START) 0 4 ++ Sync ∷ [])

-- segment 0 with generation 0, in which the first record will have the number 1
abbrev pub start_log : Calls
start_log = start_calls LOG_START 0 0 1

-- the empty store, written over a superblock that is open or closed
abbrev pub write_calls : (is_open : Bool) (indexes pages : ℕ) → Calls
write_calls is_open indexes pages = close_superblock_if is_open ++ (close_gates ++ (start_log ++ write_superblock indexes pages))

-- all calls of a format: it looks first whether the superblock is open
abbrev pub format_calls : (is_open : Bool) (indexes pages : ℕ) → Calls
format_calls is_open indexes pages = Read 0 1 ∷ write_calls is_open indexes pages

-- These calls were made, or the first of them up to one that failed. Whether the gate was found open decides which they are.
pub record Formats {X E : Type 0} (indexes : ℕ) (old new : DeviceState) (result : Result X E) : Type 0 where
  pub is_open : Bool
  pub told : WhereTold old.story (TellsGate is_open)
  pub made : Made (format_calls is_open indexes old.pages) old new result
