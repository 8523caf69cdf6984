-- What has happened on a device, what is read there now, and what a crash may leave of it.
use Rattle.std.specs.Prelude.{◌≡◌, ◌⊎◌, ℕ, ◌+◌, ◌-◌, ◌<◌, ◌≤◌, List, [], ◌∷◌, length, Option, Some, zero, suc, if◌then◌else◌, ◌&&◌, nat_le, nat_lt, slice_index}
use Rattle.std.specs.Ordering.{nat_cmp, MatchOrdering}

-- the byte at each place
abbrev pub Bytes : Type 0
Bytes = ℕ → ℕ

-- the bytes of a list, and 0 past its end
abbrev pub place : List ℕ → Bytes
place bytes i = slice_index bytes i

-- A call of a device that has returned. A write that failed may have left anything in its range;
-- every other call that failed changed nothing.
pub data Call : Type 0 where
  Read : (at count : ℕ) → Call
  Write : (at : ℕ) (new : List ℕ) → Call
  Sync : Call
  FailedWrite : (at : ℕ) (new : List ℕ) → Call
  FailedCall : Call

-- calls that have returned, the newest first
abbrev pub Past : Type 0
Past = List Call

-- calls one after another, the oldest first
abbrev pub Calls : Type 0
Calls = List Call

-- the bytes at clock 0, with 0 past their end, and each call since
pub record Story : Type 0 where
  pub start : List ℕ
  pub past : Past

-- how many calls there were, failed ones too
abbrev pub clock_of : Story → ℕ
clock_of s = length s.past

-- the story after one call more
abbrev pub with_call : Story → Call → Story
with_call s call = record { start = s.start; past = call ∷ s.past }

-- the story after these calls
abbrev pub after : Story → Calls → Story
after s [] = s
after s (call ∷ calls) = after (with_call s call) calls

-- What there is to see of a device: its length in pages, its clock and its count of faults, and its story where it tells one.
pub record DeviceState : Type 0 where
  pub pages : ℕ
  pub clock : ℕ
  pub faults : ℕ
  pub story : Option Story

-- the place is not in a range
abbrev pub IsOutside : (at count i : ℕ) → Type 0
IsOutside at count i = (i < at) ⊎ (at + count ≤ i)

-- the place is in a range
pub record IsInside (at count i : ℕ) : Type 0 where
  pub from : at ≤ i
  pub to : i < at + count

-- these bytes from this place on, and the others as they were
abbrev pub patched : ℕ → List ℕ → Bytes → Bytes
patched at new old i = if nat_le at i && nat_lt i (at + length new) then slice_index new (i - at) else old i

-- the bytes as read after these calls: writes that succeeded are read
abbrev pub bytes_after : Bytes → Past → Bytes
bytes_after start [] = start
bytes_after start (Write at new ∷ past) = patched at new (bytes_after start past)
bytes_after start (other ∷ past) = bytes_after start past

-- the bytes as read now
abbrev pub bytes_of : Story → Bytes
bytes_of s = bytes_after (place s.start) s.past

-- no write has failed at this place since it was last written: a read there gives the byte as read.
-- Where one has failed, a read may give anything.
abbrev pub IsReadable : Past → ℕ → Type 0
IsReadable [] i = Unit {0}
IsReadable (Write at new ∷ past) i = IsInside at (length new) i ⊎ IsReadable past i
IsReadable (FailedWrite at new ∷ past) i = IsOutside at (length new) i × IsReadable past i
IsReadable (other ∷ past) i = IsReadable past i

-- A crash leaves the byte as read at this place: no write was tried there since the last sync that succeeded (or clock 0),
-- and at that sync it could be read. A sync that failed is a failed call, and settles nothing.
abbrev pub IsSettled : Past → ℕ → Type 0
IsSettled [] i = Unit {0}
IsSettled (Write at new ∷ past) i = IsOutside at (length new) i × IsSettled past i
IsSettled (FailedWrite at new ∷ past) i = IsOutside at (length new) i × IsSettled past i
IsSettled (Sync ∷ past) i = IsReadable past i
IsSettled (other ∷ past) i = IsSettled past i

-- a call that is under way doesn't touch this place
abbrev pub IsSpared : Call → ℕ → Type 0
IsSpared (Write at new) i = IsOutside at (length new) i
IsSpared (FailedWrite at new) i = IsOutside at (length new) i
IsSpared other i = Unit {0}

-- what a crash may leave while no call is under way: the bytes as read where they are settled, and anything elsewhere
abbrev pub IsImageNow : Story → Bytes → Type 0
IsImageNow s image = (i : ℕ) → IsSettled s.past i → image i ≡ bytes_of s i

-- what a crash may leave while this call is under way: anything in its range too
abbrev pub IsImageDuring : Story → Call → Bytes → Type 0
IsImageDuring s call image = (i : ℕ) → IsSpared call i → IsSettled s.past i → image i ≡ bytes_of s i

-- What a crash may leave at moment m: call m has returned, and call m + 1 has not. Where call m + 1 is in the story
-- it is under way.
abbrev pub IsImageAt : (start : List ℕ) → Past → ℕ → Bytes → Type 0
IsImageAt start [] m image = IsImageNow (record { start = start; past = [] }) image
IsImageAt start (call ∷ past) m image =
    MatchOrdering (nat_cmp m (length past))
    (IsImageAt start past m image)
    (IsImageDuring (record { start = start; past = past }) call image)
    (IsImageNow (record { start = start; past = call ∷ past }) image)

abbrev pub IsImage : Story → ℕ → Bytes → Type 0
IsImage s m image = IsImageAt s.start s.past m image

-- a crash now leaves at each of these places the byte as read
abbrev pub IsCalmAt : (ℕ → Type 0) → Story → Type 0
IsCalmAt Looked s = (i : ℕ) → Looked i → IsSettled s.past i

-- what is told has P, where it is told
abbrev pub WhereTold : {T : Type 0} → Option T → (T → Type 0) → Type 0
WhereTold {T = T} told P = (s : T) → told ≡ Some s → P s

-- the bytes of a range
unfoldable pub part : (at count : ℕ) → Bytes → List ℕ
part at zero bytes = []
part at (suc count) bytes = bytes at ∷ part (at + 1) count bytes
