-- What is on the disk of a directory, and the calls that change it.
use Rattle.std.specs.Prelude.{◌≡◌, ◌≢◌, ◌⊎◌, ℕ, ◌+◌, [], ◌∷◌, set, Option, Some, None, Result, OnOk}
use Rattle.dev_model.specs.Story.{Story, WhereTold, bytes_of, clock_of, IsReadable, IsSettled, IsInside, Write, Calls}
use Rattle.dev_model.specs.Moments.{EachMoment, LeavesOnly}
use Rattle.comp_dir.specs.Places.{slot_start}
use Rattle.comp_dir.specs.Slots.{slot_bytes}
use Rattle.comp_dir.specs.Directory.{Directory, slot_body, directory_of}
use Rattle.gate.specs.declared.gates.TheConstants.{OPEN}
use Rattle.comp_dir.specs.declared.places.TheConstants.{SLOT_BODY_BYTES}
use Rattle.comp_dir.specs.declared.slots.Slot.{Slot}
use Rattle.comp_dir.specs.Resting.{IsAtRest}

-- the gate of a slot is closed
abbrev pub IsClosed : ℕ → Story → Type 0
IsClosed n s = bytes_of s (slot_start n) ≢ OPEN

-- the gate of a slot is open
abbrev pub IsOpen : ℕ → Story → Type 0
IsOpen n s = bytes_of s (slot_start n) ≡ OPEN

-- a place behind a slot's gate
abbrev pub IsBehindGate : (n i : ℕ) → Type 0
IsBehindGate n i = IsInside (slot_start n + 1) SLOT_BODY_BYTES i

-- The slot's bytes stand behind its closed gate, and the next sync puts them on the disk.
pub record IsWritten (n : ℕ) (slot : Slot) (s : Story) : Type 0 where
  pub closed : IsClosed n s
  pub bytes : slot_body n (bytes_of s) ≡ slot_bytes slot
  pub readable : (i : ℕ) → IsBehindGate n i → IsReadable s.past i

-- The slot's bytes stand behind its closed gate, and are on the disk.
pub record IsReady (n : ℕ) (slot : Slot) (s : Story) : Type 0 where
  pub closed : IsClosed n s
  pub bytes : slot_body n (bytes_of s) ≡ slot_bytes slot
  pub settled : (i : ℕ) → IsBehindGate n i → IsSettled s.past i

-- the bytes behind the gate
abbrev pub write_calls : ℕ → Slot → Calls
write_calls n slot = Write (slot_start n + 1) (slot_bytes slot) ∷ []

-- the old directory with this slot open
abbrev pub with_slot : ℕ → Slot → Directory → Directory
with_slot n slot slots = set slots n (Some (slot_bytes slot))

-- the old directory with this slot closed
abbrev pub without_slot : ℕ → Directory → Directory
without_slot n slots = set slots n None

-- What a directory keeps over a run of calls: it stays on the disk, and it reads the same, now and from each image of each moment.
pub record HasStayed (s t : Story) : Type 0 where
  pub at_rest : IsAtRest t
  pub reads : directory_of (bytes_of t) ≡ directory_of (bytes_of s)
  pub each : EachMoment (clock_of s) t (λ _ image. directory_of image ≡ directory_of (bytes_of s))

-- the one directory or the other
abbrev pub IsOneOf : Directory → Directory → Directory → Type 0
IsOneOf old new image = (image ≡ old) ⊎ (image ≡ new)

-- What a call makes of a directory at rest: each crash at each moment of it leaves the old one or the new one, and after `Ok` the
-- new one stands, at rest.
pub record Becomes {X E : Type 0} (new : Directory) (result : Result X E) (s : Story) (now : Option Story) : Type 0 where
  pub any_moment : LeavesOnly s now (λ image. IsOneOf (directory_of (bytes_of s)) new (directory_of image))
  pub at_rest : OnOk result (WhereTold now IsAtRest)
  pub reads : OnOk result (WhereTold now (λ t. directory_of (bytes_of t) ≡ new))
