-- The calls that an append makes, and what an append and a change of segments make of the log, also where a crash comes between.
use Rattle.std.specs.Prelude.{◌≡◌, ◌⊎◌, ℕ, ◌+◌, List, [], ◌∷◌, ◌++◌, map, get_or, set, Bool, if◌then◌else◌, true, Option, None, Some, Result, OnOk, All}
use Rattle.dev_model.specs.Story.{Story, Calls, WhereTold, bytes_of}
use Rattle.dev_model.specs.Moments.{LeavesOnly}
use Rattle.gate.specs.Calls.{gated_calls}
use Rattle.wal_log.specs.Places.{record_start}
use Rattle.wal_log.specs.State.{IsAtRest, IsLogOf, header_bytes, newest, following}
use Rattle.wal_log.specs.Later.{later}
use Rattle.wal_log.specs.Records.{record_bytes}
use Rattle.wal_log.specs.Segments.{Segments, segments_of}
use Rattle.wal_log.specs.Growing.{with_record, with_records, behind_gate, started_segment}
use Rattle.wal_log.specs.Rules.{Opens, records_of}
use Rattle.wal_log.specs.declared.log.Log.{Log}
use Rattle.wal_log.specs.declared.records.Record.{Record}

-- Records one behind another, with the open gates between them and a closed gate behind the last, and then the gate of the first,
-- open. With that gate all of them stand, and none before.
abbrev pub append_all_calls : Log → List Record → Calls
append_all_calls log rs = gated_calls (record_start log.start (newest log) log.records) (behind_gate (map record_bytes rs))

-- a record with the closed gate behind it, and then its own gate, open
abbrev pub append_calls : Log → Record → Calls
append_calls log r = append_all_calls log (r ∷ [])

-- how many calls it takes to close a header
abbrev pub close_count : Bool → ℕ
close_count is_open = if is_open then 2 else 0

-- the segments of a log, as they stand
abbrev pub segments_in : Log → Story → Segments
segments_in log s = segments_of log.start (bytes_of s)

-- a log with one record more
abbrev pub appended : Log → Log
appended log = record log { records = log.records + 1; next_lsn = log.next_lsn + 1 }

-- a log that has gone on in its next segment
abbrev pub turned : Log → Log
turned log = record log { generation = log.generation + 1; records = 0; open_headers = set log.open_headers (following log) true }

-- the old segments, or these with all of these records more in one of them
abbrev pub IsBeforeOrAfterAll : ℕ → List (List ℕ) → Segments → Segments → Type 0
IsBeforeOrAfterAll k bodies old image = (image ≡ old) ⊎ (image ≡ set old k (with_records bodies (get_or old k None)))

-- the old segments, or these with one record more in one of them
abbrev pub IsBeforeOrAfter : ℕ → List ℕ → Segments → Segments → Type 0
IsBeforeOrAfter k bytes old image = IsBeforeOrAfterAll k (bytes ∷ []) old image

-- the header that the next segment gets
abbrev pub first_header : Log → List ℕ
first_header log = header_bytes (log.generation + 1) log.next_lsn

abbrev pub IsOneOf : Segments → Segments → Segments → Type 0
IsOneOf old new image = (image ≡ old) ⊎ (image ≡ new)

-- the old segments, these without the one in turn, or these with that one started anew
abbrev pub IsTurning : ℕ → List ℕ → Segments → Segments → Type 0
IsTurning k header old image = (image ≡ old) ⊎ ((image ≡ set old k None) ⊎ (image ≡ set old k (Some (started_segment header))))

-- an index ends right before the newest segment
abbrev pub EndsBefore : Log → ℕ → Type 0
EndsBefore log last = last + 1 + log.records ≡ log.next_lsn

-- the log may be read, where the indexes end so, and it has these records
pub record OpensAs (ends : List ℕ) (records : List Record) (segments : Segments) : Type 0 where
  pub opens : Opens ends segments
  pub records_are : records_of segments ≡ records

-- it has these records, or these and all of those
abbrev pub HasRecordsOrAll : List ℕ → List Record → List Record → Segments → Type 0
HasRecordsOrAll ends records rs segments = OpensAs ends records segments ⊎ OpensAs ends (records ++ rs) segments

-- it has these records, or these and one more
abbrev pub HasRecordsOr : List ℕ → List Record → Record → Segments → Type 0
HasRecordsOr ends records r segments = HasRecordsOrAll ends records (r ∷ []) segments

-- it has the same records, but for those of the segment in turn where that is closed or used again
abbrev pub HasSameRecords : List ℕ → ℕ → Segments → Segments → Type 0
HasSameRecords ends k old segments = OpensAs ends (records_of old) segments ⊎ OpensAs ends (records_of (set old k None)) segments

-- What an append does to a log at rest, of which `next` is what is in memory afterwards.
pub record Appends {X E : Type 0} (log next : Log) (r : Record) (result : Result X E) (s : Story) (now : Option Story) : Type 0 where
  -- Each crash at each moment of the call leaves the old segments, or these with the new record, and after `Ok` the log has it.
  pub any_moment : LeavesOnly s now (λ image. IsBeforeOrAfter (newest log) (record_bytes r) (segments_in log s) (segments_of log.start image))
  pub at_rest : OnOk result (WhereTold now (IsAtRest next))
  pub segments : OnOk result (WhereTold now (λ t. segments_in log t ≡ set (segments_in log s) (newest log) (with_record (record_bytes r) (get_or (segments_in log s) (newest log) None))))
  -- The rules hold of the log with the record, and each image reads as the records before it, or these and the new one.
  pub log_of : IsLogOf log (segments_in log s) → OnOk result (WhereTold now (λ t. IsLogOf next (segments_in log t)))
  pub recovers : IsLogOf log (segments_in log s) → (ends : List ℕ) → Opens ends (segments_in log s) → LeavesOnly s now (λ image. HasRecordsOr ends (records_of (segments_in log s)) r (segments_of log.start image))
  pub logged : IsLogOf log (segments_in log s) → (ends : List ℕ) → Opens ends (segments_in log s) → OnOk result (WhereTold now (λ t. OpensAs ends (records_of (segments_in log s) ++ r ∷ []) (segments_in log t)))

-- What a change of segments does to a log at rest, of which `next` is what is in memory afterwards.
pub record Turns {X E : Type 0} (log next : Log) (result : Result X E) (s : Story) (now : Option Story) : Type 0 where
  -- Each crash at each moment of the call leaves the old segments, these without the next one, or these with it as a new one.
  pub any_moment : LeavesOnly s now (λ image. IsTurning (following log) (first_header log) (segments_in log s) (segments_of log.start image))
  pub at_rest : OnOk result (WhereTold now (IsAtRest next))
  pub segments : OnOk result (WhereTold now (λ t. segments_in log t ≡ set (segments_in log s) (following log) (Some (started_segment (first_header log)))))
  -- The rules hold of the log afterwards, and where the indexes end right before the newest segment, each image reads the same
  -- records, but for those of the segment that is used again.
  pub log_of : IsLogOf log (segments_in log s) → OnOk result (WhereTold now (λ t. IsLogOf next (segments_in log t)))
  pub recovers : IsLogOf log (segments_in log s) → (ends : List ℕ) → All (EndsBefore log) ends → Opens ends (segments_in log s) →
      LeavesOnly s now (λ image. HasSameRecords ends (following log) (segments_in log s) (segments_of log.start image))

-- The segment that is used again has no record behind an index that ends right before the newest segment.
abbrev pub KeepsLater : Log → Segments → Type 0
KeepsLater log segments = (last : ℕ) → EndsBefore log last → later last (records_of (set segments (following log) None)) ≡ later last (records_of segments)
