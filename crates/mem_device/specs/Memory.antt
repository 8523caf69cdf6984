-- A device in memory: what contracts see of it, and which of its calls fail.
use Rattle.std.specs.Prelude.{◌⊎◌, ℕ, ◌+◌, ◌-◌, ◌^◌, ◌<◌, ◌≤◌, List, ◌∷◌, length, slice_set, replicate, map, Contains, Some, ◌&&◌, nat_le, nat_lt, if◌then◌else◌}
use Rattle.std.specs.List.{sum_by}
use Rattle.dev_model.specs.Counts.{next_count}
use Rattle.dev_model.specs.Story.{Call, Write, FailedWrite, FailedCall, Past, DeviceState, Story}

-- The bytes at clock 0 and each call since; the room for calls and for the bytes of writes; the clock numbers of the calls
-- that fail.
pub record MemoryState : Type 0 where
  pub pages : ℕ
  pub start : List ℕ
  pub past : Past
  pub room_calls : ℕ
  pub room_bytes : ℕ
  pub fail : List ℕ
  pub faults : ℕ

abbrev pub story_of : MemoryState → Story
story_of d = record { start = d.start; past = d.past }

abbrev pub seen_of : MemoryState → DeviceState
seen_of d = record { pages = d.pages; clock = length d.past; faults = d.faults; story = Some (story_of d) }

-- so many bytes 0; opaque, since a device's length is a numeral that would unfold
unfoldable pub zeros : ℕ → List ℕ
zeros n = replicate n 0

-- how many bytes this call wrote or tried to write
abbrev pub bytes_in : Call → ℕ
bytes_in (Write at new) = length new
bytes_in (FailedWrite at new) = length new
bytes_in other = 0

-- how many bytes the writes among these calls have
abbrev pub bytes_noted : Past → ℕ
bytes_noted past = sum_by bytes_in past

-- the next call has a clock number and room in the record
abbrev pub HasCallLeft : MemoryState → Type 0
HasCallLeft d = (length d.past < 2 ^ 64 - 1) × (length d.past < d.room_calls)

-- the next call is listed as one that fails
abbrev pub IsListed : MemoryState → Type 0
IsListed d = Contains d.fail (length d.past + 1)

-- the next call fails: it is past the clock or the room for calls, or it is listed
abbrev pub Refuses : MemoryState → Type 0
Refuses d = (2 ^ 64 - 1 ≤ length d.past) ⊎ ((d.room_calls ≤ length d.past) ⊎ IsListed d)

-- the bytes of a write have room in the record
abbrev pub HasRoom : MemoryState → ℕ → Type 0
HasRoom d count = bytes_noted d.past + count ≤ d.room_bytes

-- the state after a call that failed and changed nothing
abbrev pub with_failure : MemoryState → MemoryState
with_failure d = record d { faults = next_count d.faults; past = if nat_lt (length d.past) (2 ^ 64 - 1) then FailedCall ∷ d.past else d.past }

-- a list of bytes from this place on, after the byte at a place of the device was changed
abbrev pub poked_list : (at byte : ℕ) → ℕ → List ℕ → List ℕ
poked_list at byte from bytes = if nat_le from at && nat_lt (at - from) (length bytes) then slice_set bytes (at - from) byte else bytes

-- a call, after the byte at a place of the device was changed in what it wrote
abbrev pub poked_call : (at byte : ℕ) → Call → Call
poked_call at byte (Write from new) = Write from (poked_list at byte from new)
poked_call at byte (FailedWrite from new) = FailedWrite from (poked_list at byte from new)
poked_call at byte other = other

-- the state after a byte was changed in the start and in each write that covers it
abbrev pub poked : (at byte : ℕ) → MemoryState → MemoryState
poked at byte d = record d { start = slice_set d.start at byte; past = map (poked_call at byte) d.past }
