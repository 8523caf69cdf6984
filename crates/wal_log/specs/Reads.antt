-- That a log ends on its device, reads of its bytes alone, and what holds where they are on the disk.
use Rattle.std.specs.Prelude.{ℕ, ◌+◌, ◌*◌, ◌<◌, ◌≤◌, ◌^◌, Option}
use Rattle.dev_model.specs.Story.{Bytes, DeviceState, Story, WhereTold, bytes_of}
use Rattle.dev_model.specs.Moments.{ReadsWithin}
use Rattle.wal_log.specs.declared.places.TheConstants.{LOG_BYTES}
use Rattle.wal_log.specs.Places.{IsInLog}
use Rattle.wal_log.specs.State.{IsSegmentStill, IsStill}

-- The story went on by reads of the log's bytes alone.
abbrev pub ReadsLog : (log_start : ℕ) → Story → Option Story → Type 0
ReadsLog log_start s now = ReadsWithin (IsInLog log_start) s now

-- The device tells that alone, where it tells.
abbrev pub OnlyReadsLog : (log_start : ℕ) → DeviceState → DeviceState → Type 0
OnlyReadsLog log_start old new = WhereTold old.story (λ s. ReadsLog log_start s new.story)

-- the four segments of the log end on a device of so many pages, and their places fit 64 bits
abbrev pub EndsOnDevice : (log_start pages : ℕ) → Type 0
EndsOnDevice log_start pages = (log_start + LOG_BYTES ≤ pages * 4096) × (log_start + LOG_BYTES < 2 ^ 64)

-- what holds of the bytes of a device where all that is looked at is on the disk, in a segment or in the log
abbrev pub WhereSegmentStill : (log_start k : ℕ) → DeviceState → (Bytes → Type 0) → Type 0
WhereSegmentStill log_start k device P = WhereTold device.story (λ s. IsSegmentStill log_start k s → P (bytes_of s))

abbrev pub WhereStill : (log_start : ℕ) → DeviceState → (Bytes → Type 0) → Type 0
WhereStill log_start device P = WhereTold device.story (λ s. IsStill log_start s → P (bytes_of s))
