-- What stands inside a device in memory: the calls in one list, the written bytes in another, in room that was taken before.
-- No public contract needs it.
use Rattle.std.specs.Prelude.{◌≡◌, ◌⊎◌, ℕ, zero, suc, ◌+◌, ◌*◌, ◌^◌, ◌<◌, ◌≤◌, List, [], ◌∷◌, length, take, drop, slice_index, replicate, Some}
use Rattle.std.specs.List.{sum_by}
use Rattle.std.proofs.Common.{ap, refl}
use Rattle.std.proofs.lemmas.Option.{same_Some}
use Rattle.dev_model.specs.Story.{Call, Calls, Read, Write, Sync, FailedWrite, FailedCall, Past, Story, bytes_after, clock_of}
use Rattle.mem_device.specs.Memory.{MemoryState, story_of, zeros}
use Rattle.dev_model.specs.Story.{place}
use Rattle.mem_device.specs.declared.record.Kept.{Kept}
use Rattle.mem_device.specs.declared.record.Kept.TheVariants as stored

-- what contracts see of a record: the calls, and the room for calls and for bytes
pub record Noted : Type 0 where
  pub past : Past
  pub room_calls : ℕ
  pub room_bytes : ℕ

-- how many of the written bytes are those of this call
abbrev pub size_of : Kept → ℕ
size_of (stored.Write at count) = count
size_of (stored.FailedWrite at count) = count
size_of other = 0

-- a call as it is kept, with what it wrote
abbrev pub call_of : List ℕ → Kept → Call
call_of bytes (stored.Read at count) = Read at count
call_of bytes (stored.Write at count) = Write at bytes
call_of bytes (stored.FailedWrite at count) = FailedWrite at bytes
call_of bytes stored.Sync = Sync
call_of bytes stored.Failed = FailedCall

-- the calls that are kept, where the bytes of each stand behind those of the one before it
abbrev pub calls_of : List Kept → List ℕ → Calls
calls_of [] written = []
calls_of (c ∷ calls) written = call_of (take (size_of c) written) c ∷ calls_of calls (drop (size_of c) written)

-- what holds of each record: the written bytes are those of its calls, all within its room, and past it calls are only counted
pub record IsSound (calls : List Kept) (written : List ℕ) (missed room_calls room_bytes calls_capacity bytes_capacity : ℕ) : Type 0 where
  pub calls_fit : length calls ≤ room_calls
  pub bytes_fit : length written ≤ room_bytes
  pub bytes_are : sum_by size_of calls ≡ length written
  pub calls_taken : room_calls ≤ calls_capacity
  pub bytes_taken : room_bytes ≤ bytes_capacity
  pub counted : length calls + missed < 2 ^ 64
  pub missed_past_room : (missed ≡ 0) ⊎ (room_calls ≤ length calls)

-- the write is on a device of so many bytes
abbrev pub IsOnDevice : ℕ → Call → Type 0
IsOnDevice size (Write at new) = at + length new ≤ size
IsOnDevice size (FailedWrite at new) = at + length new ≤ size
IsOnDevice size other = Unit {0}

abbrev pub AreOnDevice : ℕ → Past → Type 0
AreOnDevice size [] = Unit {0}
AreOnDevice size (call ∷ past) = IsOnDevice size call × AreOnDevice size past

-- so many failed calls more
abbrev pub with_missed : ℕ → Past → Past
with_missed zero past = past
with_missed (suc n) past = FailedCall ∷ with_missed n past

-- what holds of each device in memory
pub record IsSoundMemory (pages : ℕ) (start now : List ℕ) (past : Past) : Type 0 where
  pub start_length : length start ≡ pages * 4096
  pub now_length : length now ≡ pages * 4096
  pub now_is : (i : ℕ) → slice_index now i ≡ bytes_after (place start) past i
  pub on_device : AreOnDevice (pages * 4096) past

-- the law of a device's clock
pub clock_of-story : (d : MemoryState) (s : Story) → Some (story_of d) ≡ Some s → length d.past ≡ clock_of s
clock_of-story d s is = ap clock_of (same_Some _ _ is)

pub slice_index-zeros : (n i : ℕ) → slice_index (zeros n) i ≡ 0
unfolding zeros
slice_index-zeros n i = at n i
  where
    at : (n i : ℕ) → slice_index (replicate n 0) i ≡ 0
    at zero i = refl
    at (suc n) zero = refl
    at (suc n) (suc i) = at n i
