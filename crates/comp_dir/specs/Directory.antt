-- The directory as it stands in bytes: the raw bytes of each open slot.
use Rattle.std.specs.Prelude.{◌≡◌, ◌⊎◌, ℕ, zero, suc, ◌+◌, ◌<◌, ◌≤◌, List, [], ◌∷◌, Option, Some, None, if◌then◌else◌, ◌==◌}
use Rattle.dev_model.specs.Story.{Bytes, part}
use Rattle.comp_dir.specs.Places.{slot_start}
use Rattle.comp_dir.specs.Slots.{slot_of}
use Rattle.gate.specs.declared.gates.TheConstants.{OPEN}
use Rattle.comp_dir.specs.declared.places.TheConstants.{SLOT_BYTES, SLOT_BODY_BYTES, SLOTS}
use Rattle.comp_dir.specs.declared.slots.Slot.{Slot}

-- the bytes of a slot behind its gate
unfoldable pub slot_body : ℕ → Bytes → List ℕ
slot_body n bytes = part (slot_start n + 1) SLOT_BODY_BYTES bytes

-- a slot whose gate is open
abbrev pub slot_at : ℕ → Bytes → Option (List ℕ)
slot_at n bytes = if bytes (slot_start n) == OPEN then Some (slot_body n bytes) else None

-- the slots by number, each with its bytes where it is open
abbrev pub Directory : Type 0
Directory = List (Option (List ℕ))

-- so many slots from one on
unfoldable pub slots_from : (count n : ℕ) → Bytes → Directory
slots_from zero n bytes = []
slots_from (suc count) n bytes = slot_at n bytes ∷ slots_from count (n + 1) bytes

-- all slots
unfoldable pub directory_of : Bytes → Directory
directory_of bytes = slots_from SLOTS 0 bytes

-- a slot and its number
abbrev pub Numbered : Type 0
Numbered = ℕ × Slot

-- the open slots by number, of which the first has this number
abbrev pub open_from : ℕ → Directory → List Numbered
open_from n [] = []
open_from n (None ∷ slots) = open_from (n + 1) slots
open_from n (Some body ∷ slots) = (n, slot_of body) ∷ open_from (n + 1) slots

abbrev pub open_slots : Directory → List Numbered
open_slots slots = open_from 0 slots

-- the places that are looked at to read a slot: its gate, and where that is open all of its bytes
abbrev pub IsLookedInSlot : ℕ → Bytes → ℕ → Type 0
IsLookedInSlot n bytes i = (i ≡ slot_start n) ⊎ ((bytes (slot_start n) ≡ OPEN) × (slot_start n ≤ i) × (i < slot_start n + SLOT_BYTES))

-- the places that are looked at to read the directory
abbrev pub IsLooked : Bytes → ℕ → Type 0
IsLooked bytes i = (n : ℕ) × (n < SLOTS) × IsLookedInSlot n bytes i
