-- How a log that is kept in memory belongs to the bytes, and the calls that a change of segments makes.
use Rattle.std.specs.Prelude.{◌≡◌, ℕ, ◌+◌, ◌<◌, ◌%◌, List, [], ◌∷◌, ◌++◌, length, get_or, replicate, Bool, false, if◌then◌else◌, ◌==◌, None}
use Rattle.std.specs.Int.{to_be_bytes, w64}
use Rattle.dev_model.specs.Story.{Story, bytes_of, IsCalmAt, Calls}
use Rattle.gate.specs.Calls.{close_calls, gated_calls}
use Rattle.wal_log.specs.Places.{segment_start}
use Rattle.wal_log.specs.Segments.{Segments, segment_records, IsLooked}
use Rattle.wal_log.specs.Rules.{Numbered, generation_of, next_lsn_of, AreSound, in_order}
use Rattle.gate.specs.declared.gates.TheConstants.{OPEN}
use Rattle.wal_log.specs.declared.places.TheConstants.{RESERVED_BYTES}
use Rattle.wal_log.specs.declared.log.Log.{Log}

-- all that is looked at to read a segment is on the disk
abbrev pub IsSegmentStill : (log_start k : ℕ) → Story → Type 0
IsSegmentStill log_start k s = IsCalmAt (IsLooked log_start k (bytes_of s)) s

-- all that is looked at to read the log is on the disk
abbrev pub IsStill : (log_start : ℕ) → Story → Type 0
IsStill log_start s = (k : ℕ) → k < 4 → IsSegmentStill log_start k s

-- the segment that takes the next record
abbrev pub newest : Log → ℕ
newest log = log.generation % 4

-- the last of the segments in order has this generation, this next number and so many records
abbrev pub HasLast : (generation next records : ℕ) → List Numbered → Type 0
HasLast generation next records [] = ⊥
HasLast generation next records (n ∷ []) = (generation_of n ≡ generation) × (next_lsn_of n ≡ next) × (length n.segment.records ≡ records)
HasLast generation next records (n ∷ m ∷ ms) = HasLast generation next records (m ∷ ms)

-- the segments are sound, wherever the indexes end, and the newest of them ends where the log does
pub record IsLogOf (log : Log) (segments : Segments) : Type 0 where
  pub sound : AreSound [] None (in_order segments)
  pub newest_is : HasLast log.generation log.next_lsn log.records (in_order segments)

-- The log has so many records in its newest segment, a closed gate stands behind them, and all is on the disk.
pub record IsAtRest (log : Log) (s : Story) : Type 0 where
  pub started : bytes_of s (segment_start log.start (newest log)) ≡ OPEN
  pub counts : length (segment_records log.start (newest log) (bytes_of s)) ≡ log.records
  pub heads : (k : ℕ) → k < 4 → get_or log.open_headers k false ≡ (bytes_of s (segment_start log.start k) == OPEN)
  pub still : IsStill log.start s

-- The gate of a header that is open, closed. What is closed isn't written closed again.
abbrev pub close_calls_if : (log_start : ℕ) → Bool → ℕ → Calls
close_calls_if log_start is_open k = if is_open then close_calls (segment_start log_start k) else []

-- the bytes behind the gate: the generation, the number of the first record, and zeros
unfoldable pub header_bytes : (generation first_lsn : ℕ) → List ℕ
header_bytes generation first_lsn = to_be_bytes w64 generation ++ to_be_bytes w64 first_lsn ++ replicate RESERVED_BYTES 0

-- a header with the closed gate of its segment's first record, and then its own gate, open
abbrev pub start_calls : (log_start k generation first_lsn : ℕ) → Calls
start_calls log_start k generation first_lsn = gated_calls (segment_start log_start k) (header_bytes generation first_lsn ++ 0 ∷ [])

-- the segment that comes after the newest
abbrev pub following : Log → ℕ
following log = (log.generation + 1) % 4

abbrev pub turn_calls : Log → Calls
turn_calls log =
    close_calls_if log.start (get_or log.open_headers (following log) false) (following log)
    ++ start_calls log.start (following log) (log.generation + 1) log.next_lsn
