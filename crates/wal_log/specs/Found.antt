-- What is found where a record may stand, and what a segment gives. No public contract needs this file but for the words of faults
-- (`WhereBad`, `HasCauseOfFault`).
use Rattle.std.specs.Prelude.{◌≡◌, ◌≢◌, ◌%◌, take, drop, get_or, ℕ, ◌+◌, ◌-◌, ◌<◌, ◌≤◌, ◌⊎◌, List, ◌++◌, length, map, Result, IfErr}
use Rattle.dev_model.specs.Counts.{Rose}
use Rattle.dev_model.specs.Story.{Bytes, DeviceState, Story, WhereTold, bytes_of, part, IsSettled}
use Rattle.dev_model.specs.Answers.{IsReadFrom}
use Rattle.wal_log.specs.Records.{IsRecord, record_of}
use Rattle.wal_log.specs.Rules.{HasRecords, AreRecords}
use Rattle.wal_log.specs.Places.{segment_start, record_start}
use Rattle.gate.specs.declared.gates.TheConstants.{OPEN}
use Rattle.wal_log.specs.declared.places.TheConstants.{RECORD_BYTES, RECORD_BODY_BYTES, MOST_RECORDS, LSN_LIMIT}
use Rattle.wal_log.specs.declared.reading.TheConstants.{WINDOW_RECORDS}
use Rattle.wal_log.specs.State.{IsSegmentStill}
use Rattle.wal_log.specs.Segments.{segment_records, open_records}
use Rattle.wal_log.specs.declared.records.Record.{Record}
use Rattle.wal_log.specs.declared.reading.Found.{Found}
use Rattle.wal_log.specs.declared.reading.Found.TheVariants.{Closed, Bad, Sound}
use Rattle.wal_log.specs.declared.reading.LogFault.{LogFault}
use Rattle.wal_log.specs.declared.reading.LogFault.TheVariants.{Failed, BadLog, OutOfMemory}

-- A record's gate is on the disk, and where it is open the bytes behind it are.
pub record IsPlaceStill (at : ℕ) (s : Story) : Type 0 where
  pub gate : IsSettled s.past at
  pub body : bytes_of s at ≡ OPEN → (i : ℕ) → at < i → i < at + RECORD_BYTES → IsSettled s.past i

-- a segment is open, and all that is looked at to read it is on the disk
pub record IsOpenStill (log_start k : ℕ) (s : Story) : Type 0 where
  pub started : bytes_of s (segment_start log_start k) ≡ OPEN
  pub still : IsSegmentStill log_start k s

-- what holds then of the bytes of a device
abbrev pub WhereOpenStill : (log_start k : ℕ) → DeviceState → (Bytes → Type 0) → Type 0
WhereOpenStill log_start k device P = WhereTold device.story (λ s. IsOpenStill log_start k s → P (bytes_of s))

abbrev pub IsFound : ℕ → ℕ → Bytes → Found → Type 0
IsFound at lsn bytes Closed = bytes at ≢ OPEN
IsFound at lsn bytes Bad = (bytes at ≡ OPEN) × (IsRecord lsn (part (at + 1) RECORD_BODY_BYTES bytes) → ⊥)
IsFound at lsn bytes (Sound r) = (bytes at ≡ OPEN) × IsRecord lsn (part (at + 1) RECORD_BODY_BYTES bytes) × (r ≡ record_of (part (at + 1) RECORD_BODY_BYTES bytes))

-- so many records, all of them lawful, were read and put last
pub record HasReadAll (first count : ℕ) (records : List (List ℕ)) (before now : List Record) : Type 0 where
  pub counts : length records ≡ count
  pub sound : HasRecords first records
  pub added : now ≡ before ++ map record_of records

-- where the window begins that has a place
abbrev pub window_start : (log_start k place : ℕ) → ℕ
window_start log_start k place = record_start log_start k (place - place % WINDOW_RECORDS)

-- The window has what stands at a place and behind it, where that isn't the first place of the next window.
abbrev pub HoldsPlaces : (log_start k place : ℕ) → List ℕ → Story → Type 0
HoldsPlaces log_start k place window s = place % WINDOW_RECORDS ≢ 0 → IsReadFrom (window_start log_start k place) window s

-- what is found in a window, at a place in it
abbrev pub IsFoundIn : ℕ → ℕ → List ℕ → Found → Type 0
IsFoundIn at lsn window Closed = get_or window at 0 ≢ OPEN
IsFoundIn at lsn window Bad = (get_or window at 0 ≡ OPEN) × (IsRecord lsn (take RECORD_BODY_BYTES (drop (at + 1) window)) → ⊥)
IsFoundIn at lsn window (Sound r) = (get_or window at 0 ≡ OPEN) × IsRecord lsn (take RECORD_BODY_BYTES (drop (at + 1) window)) × (r ≡ record_of (take RECORD_BODY_BYTES (drop (at + 1) window)))

-- the number of a record that was found
abbrev pub HasNumber : ℕ → Found → Type 0
HasNumber lsn Closed = Unit {0}
HasNumber lsn Bad = Unit {0}
HasNumber lsn (Sound r) = lsn < LSN_LIMIT

-- so many records from this number on, each with a number below 2^62
pub record AreFew (first count : ℕ) : Type 0 where
  pub few : count ≤ MOST_RECORDS
  pub below : (count ≡ 0) ⊎ (first + count ≤ LSN_LIMIT)

-- what a named segment says
abbrev pub WhereBad : LogFault → (ℕ → Type 0) → Type 0
WhereBad Failed P = Unit {0}
WhereBad (BadLog number) P = P number
WhereBad OutOfMemory P = Unit {0}

-- a fault of the device has a count that rose
abbrev pub FaultRose : ℕ → ℕ → LogFault → Type 0
FaultRose before now Failed = Rose before now
FaultRose before now (BadLog number) = Unit {0}
FaultRose before now OutOfMemory = Unit {0}

pub record HasCauseOfFault {T : Type 0} (before now : ℕ) (result : Result T LogFault) : Type 0 where
  pub later : before ≤ now
  pub failed : IfErr result (FaultRose before now)

-- so many records of a segment were read and put last, and all of them are lawful
pub record HasReadSome (log_start first place k : ℕ) (bytes : Bytes) (before now : List Record) : Type 0 where
  pub front : List (List ℕ)
  pub counts : length front ≡ place
  pub rest : segment_records log_start k bytes ≡ front ++ open_records (MOST_RECORDS + 1 - place) (record_start log_start k place) bytes
  pub lawful : AreRecords first front
  pub added : now ≡ before ++ map record_of front
