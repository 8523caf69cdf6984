-- Where the segments of the log and their records stand on the device. The log begins at any byte, its place.
use Rattle.std.specs.Prelude.{ℕ, ◌+◌, ◌*◌, ◌≤◌}
use Rattle.wal_log.specs.declared.places.TheConstants.{LOG_BYTES, SEGMENT_BYTES, HEADER_BYTES, RECORD_BYTES}

-- the gate of a segment's header
abbrev pub segment_start : (log_start segment : ℕ) → ℕ
segment_start log_start segment = log_start + SEGMENT_BYTES * segment

-- the gate of a record
abbrev pub record_start : (log_start segment place : ℕ) → ℕ
record_start log_start segment place = segment_start log_start segment + HEADER_BYTES + RECORD_BYTES * place

-- a range of the log's bytes
pub record IsInLog (log_start at count : ℕ) : Type 0 where
  pub from : log_start ≤ at
  pub to : at + count ≤ log_start + LOG_BYTES
