-- The table after writes of the log.
use Rattle.std.specs.Prelude.{List, map}
use Rattle.table_model.specs.Table.{Table}
use Rattle.table_model.specs.Commands.{Write, put, del}
use Rattle.table_model.specs.Answers.{after_writes}
use Rattle.wal_log.specs.declared.records.Record.{Record}
use Rattle.wal_log.specs.declared.records.LogOp.{LogOp}
use Rattle.wal_log.specs.declared.records.LogOp.TheVariants.{Put, Del}

-- the write of the table that a write of the log is
abbrev pub write_of : LogOp → Write
write_of (Put row) = put row
write_of (Del key) = del key

-- the table after these records of the log
abbrev pub replayed : Table → List Record → Table
replayed t records = after_writes t (map (λ r. write_of r.op) records)
