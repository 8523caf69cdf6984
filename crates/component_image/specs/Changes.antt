-- The rows that writes of the log lay in memory.
use Rattle.std.specs.Prelude.{◌≡◌, List, [], ◌∷◌, Option, Some, None}
use Rattle.order_merge.specs.Adding.{with_entry}
use Rattle.wal_log.specs.declared.records.Record.{Record}
use Rattle.component_image.specs.Replayed.{write_of}
use Rattle.primary_ix.specs.Reading.{prim_reading}
use Rattle.primary_ix.specs.Wanted.{written_row}
use Rattle.primary_ix.specs.declared.rows.PrimRow.{PrimRow}

-- the list after the writes of these records, one after another
abbrev pub changed : List PrimRow → List Record → List PrimRow
changed rows [] = rows
changed rows (r ∷ records) = changed (with_entry prim_reading (written_row (write_of r.op)) rows) records

-- the frozen list has the rows of these writes; where none is frozen there are none
abbrev pub IsFrozenOf : Option (List PrimRow) → List Record → Type 0
IsFrozenOf None writes = writes ≡ []
IsFrozenOf (Some rows) writes = rows ≡ changed [] writes
