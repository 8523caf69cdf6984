-- How many rows lists have together, and how many there are behind records by what these say.
use Rattle.std.specs.Prelude.{ℕ, ◌+◌, List, [], ◌∷◌, length, ◌-◌, Option, Some, None}
use Rattle.primary_ix.specs.declared.rows.PrimRow.{PrimRow}
use Rattle.geo_base.specs.declared.points.Point.{Point}
use Rattle.dev_model.specs.Counts.{next_count}
use Rattle.wal_log.specs.declared.records.LogOp.{LogOp}
use Rattle.wal_log.specs.declared.records.LogOp.TheVariants.{Put, Del}
use Rattle.wal_log.specs.declared.records.Record.{Record}

-- how many rows these lists have together
abbrev pub rows_together : List (List PrimRow) → ℕ
rows_together [] = 0
rows_together (rows ∷ older) = length rows + rows_together older

-- how many rows there are after a write of a key that had this point before; the number stops at 0 and at the greatest u64
abbrev pub rows_after : LogOp → Option Point → ℕ → ℕ
rows_after (Put row) None rows = next_count rows
rows_after (Put row) (Some point) rows = rows
rows_after (Del key) None rows = rows
rows_after (Del key) (Some point) rows = rows - 1

-- how many there are after these records
abbrev pub counted : ℕ → List Record → ℕ
counted rows [] = rows
counted rows (r ∷ rs) = counted (rows_after r.op r.old_point rows) rs
