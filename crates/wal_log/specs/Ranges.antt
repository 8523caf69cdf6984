-- The numbers of a record fit their places.
use Rattle.std.specs.Prelude.{◌<◌, ◌^◌}
use Rattle.geo_base.specs.declared.points.Point.{Point}
use Rattle.wal_log.specs.declared.records.Record.{Record}
use Rattle.wal_log.specs.Records.{key_of, point_of, old_point_of}

abbrev pub IsPoint : Point → Type 0
IsPoint point = (point.x < 2 ^ 16) × (point.y < 2 ^ 16)

-- its numbers fit their places
pub record HasRanges (r : Record) : Type 0 where
  pub lsn : r.lsn < 2 ^ 64
  pub key : key_of r.op < 2 ^ 64
  pub point : IsPoint (point_of r.op)
  pub old_point : IsPoint (old_point_of r.old_point)
