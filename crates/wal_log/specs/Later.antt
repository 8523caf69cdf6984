-- The records that come behind a number.
use Rattle.std.specs.Prelude.{ℕ, List, nat_lt}
use Rattle.std.specs.List.{filter}
use Rattle.wal_log.specs.declared.records.Record.{Record}

-- those of the records whose number is above this one, in their order
abbrev pub later : ℕ → List Record → List Record
later last records = filter (λ r. nat_lt last r.lsn) records
