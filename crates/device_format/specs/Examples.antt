-- Worked examples, and laws of the definitions.
use Rattle.std.specs.Prelude.{◌≡◌, ℕ, ◌<◌, List, [], ◌∷◌, length, Bool, if◌then◌else◌}
use Rattle.dev_model.specs.Story.{Bytes, Story, part}
use Rattle.gate.specs.declared.gates.TheConstants.{OPEN}
use Rattle.comp_dir.specs.Places.{slot_start}
use Rattle.comp_dir.specs.declared.places.TheConstants.{SLOTS}
use Rattle.device_format.specs.Planning.{format_calls}
use Rattle.device_format.specs.Formatting.{IsEmptyStore}

-- behind the gate of a store of 4,096 pages with the index dhvb alone
abbrev pub example_superblock : List ℕ
example_superblock = 1 ∷ 4 ∷ 0 ∷ 0 ∷ 0 ∷ 16 ∷ 0 ∷ 76 ∷ 83 ∷ 77 ∷ 83 ∷ 80 ∷ 65 ∷ 84 ∷ 49 ∷ []

-- a device of zeros on which nothing has happened
abbrev pub zero_story : Story
zero_story = record { start = []; past = [] }

-- so many calls are planned
abbrev pub AreCounted : Type 0
AreCounted = (is_open : Bool) (indexes pages : ℕ) → length (format_calls is_open indexes pages) ≡ (if is_open then 528 else 526)

-- an empty store has no open slot
abbrev pub HaveNoOpenSlot : Type 0
HaveNoOpenSlot = (pages indexes n : ℕ) (bytes : Bytes) → n < SLOTS → bytes (slot_start n) ≡ OPEN → IsEmptyStore pages indexes bytes → ⊥

-- two empty stores on devices of as many pages with the same indexes have the same superblock
abbrev pub HaveOneSuperblock : Type 0
HaveOneSuperblock = (pages indexes : ℕ) (a b : Bytes) → IsEmptyStore pages indexes a → IsEmptyStore pages indexes b → part 0 16 a ≡ part 0 16 b
