-- The lists of a store as an opening makes them again. No public contract needs this file.
use Rattle.std.specs.Prelude.{ℕ, ◌-◌, ◌+◌, List, nat_lt, if◌then◌else◌}
use Rattle.wal_log.specs.Later.{later}
use Rattle.wal_log.specs.UpTo.{up_to}
use Rattle.wal_log.specs.declared.log.Log.{Log}
use Rattle.wal_log.specs.declared.records.Record.{Record}
use Rattle.component_image.specs.Changes.{changed}
use Rattle.component_image.specs.Counted.{counted}
use Rattle.store_state.specs.Lists.{Lists}
use Rattle.store_state.specs.Steps.{frozen_at}

-- these records are laid, one after another
abbrev pub with_records : List Record → Lists → Lists
with_records records l = record l { active = changed l.active records; rows = counted l.rows records }

-- what is laid waits for its component where the log's newest segment begins behind it
abbrev pub set_aside : (last : ℕ) → Lists → Lists
set_aside last l = if nat_lt l.cut last then frozen_at last l else l

-- the number before the first record of the newest segment
abbrev pub last_before : Log → ℕ
last_before log = log.next_lsn - (log.records + 1)

-- the records behind the components up to the newest segment, and then those of that segment
abbrev pub restored : Log → List Record → Lists → Lists
restored log records l =
    with_records (up_to log.next_lsn (later (last_before log) records))
    (set_aside (last_before log) (with_records (up_to (last_before log) (later l.cut records)) l))
