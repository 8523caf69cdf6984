-- What a table asks of the primary, and what a write of it adds.
use Rattle.std.specs.Prelude.{ℕ, Option, Some, None}
use Rattle.std.specs.Option.{option_map}
use Rattle.std.specs.FinMap.{get}
use Rattle.geo_base.specs.declared.points.Row.{Row}
use Rattle.table_model.specs.Table.{Table, row_at}
use Rattle.table_model.specs.Commands.{Write, put, del}
use Rattle.primary_ix.specs.declared.rows.PrimRow.{PrimRow}

-- a record, as a row of the primary
abbrev pub matter_row : Row → PrimRow
matter_row row = record { key = row.key; matter = Some (row.point, row.note) }

-- the table's record of a key
abbrev pub table_row : Table → ℕ → Option Row
table_row t key = option_map (λ place. row_at (key, place)) (get t key)

-- the row that a table asks for at each key: its record's, and no other
abbrev pub wanted_rows : Table → ℕ → Option PrimRow
wanted_rows t key = option_map matter_row (table_row t key)

-- the row that a write adds to the active list
abbrev pub written_row : Write → PrimRow
written_row (put row) = matter_row row
written_row (del key) = record { key = key; matter = None }
