-- The record of a write that is logged next.
use Rattle.std.specs.Prelude.{Option}
use Rattle.geo_base.specs.declared.points.Point.{Point}
use Rattle.wal_log.specs.declared.log.Log.{Log}
use Rattle.wal_log.specs.declared.records.LogOp.{LogOp}
use Rattle.wal_log.specs.declared.records.Record.{Record}

abbrev pub next_record : Log → LogOp → Option Point → Record
next_record log op old_point = record { lsn = log.next_lsn; op = op; old_point = old_point }
