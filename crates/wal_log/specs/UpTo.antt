-- The records up to a number.
use Rattle.std.specs.Prelude.{ℕ, List, nat_le}
use Rattle.std.specs.List.{filter}
use Rattle.wal_log.specs.declared.records.Record.{Record}

-- those whose number is at most this one
abbrev pub up_to : ℕ → List Record → List Record
up_to cut records = filter (λ r. nat_le r.lsn cut) records
