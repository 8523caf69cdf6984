-- The record of a row that was found, and the rows of a table.
use Rattle.std.specs.Prelude.{ℕ, Option, Some, None, List, map}
use Rattle.std.specs.Option.{option_and_then}
use Rattle.geo_base.specs.declared.points.Row.{Row}
use Rattle.table_model.specs.Table.{Table, rows_of}
use Rattle.primary_ix.specs.declared.rows.PrimRow.{PrimRow}
use Rattle.primary_ix.specs.Rows.{Matter}
use Rattle.primary_ix.specs.Wanted.{matter_row}

-- the record of a row, unless it is anti
abbrev pub with_matter : ℕ → Matter → Option Row
with_matter key None = None
with_matter key (Some matter) = Some (record { key = key; point = matter.0; note = matter.1 })

abbrev pub record_in : PrimRow → Option Row
record_in row = with_matter row.key row.matter

-- the record of the row that was found
abbrev pub record_of : Option PrimRow → Option Row
record_of found = option_and_then record_in found

-- all of them, ascending by key
abbrev pub table_rows : Table → List PrimRow
table_rows t = map matter_row (rows_of t)
