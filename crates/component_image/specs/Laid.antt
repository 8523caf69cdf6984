-- The table that components hold.
use Rattle.std.specs.Prelude.{ℕ, List, [], ◌∷◌, Some, None}
use Rattle.std.specs.FinMap as map
use Rattle.geo_base.specs.declared.points.Point.{Point}
use Rattle.table_model.specs.Table.{Table, Place}
use Rattle.primary_ix.specs.Rows.{Matter}
use Rattle.primary_ix.specs.declared.rows.PrimRow.{PrimRow}

-- what a row has beside its key
abbrev pub place_in : Point × List ℕ → Place
place_in matter = record { point = matter.0; note = matter.1 }

-- the table where a row says this of a key
abbrev pub with_matter : Table → ℕ → Matter → Table
with_matter t key None = map.remove t key
with_matter t key (Some matter) = map.insert t key (place_in matter)

-- rows laid over an older table
abbrev pub laid : List PrimRow → Table → Table
laid [] t = t
laid (row ∷ rows) t = with_matter (laid rows t) row.key row.matter

-- the rows of components, of which the newest stands first, laid over the empty table one after another from the oldest on
abbrev pub table_of : List (List PrimRow) → Table
table_of [] = map.empty
table_of (rows ∷ older) = laid rows (table_of older)
