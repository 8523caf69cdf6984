-- What a region answers: the records of rows of the primary inside a rectangle.
use Rattle.std.specs.Prelude.{List, [], ◌∷◌, ◌++◌, Result, Ok, Err}
use Rattle.std.specs.Option.{option_to_list}
use Rattle.geo_base.specs.declared.points.Row.{Row}
use Rattle.primary_ix.specs.declared.rows.PrimRow.{PrimRow}
use Rattle.primary_ix.specs.Records.{record_in}
use Rattle.store_machine.specs.declared.events.Found.{Found}
use Rattle.store_machine.specs.declared.events.Refusal.{Refusal}
use Rattle.store_core.specs.declared.region.RegionRows.{RegionRows}

-- the records of rows, without those of anti rows
abbrev pub records_in : List PrimRow → List Row
records_in [] = []
records_in (row ∷ rows) = option_to_list (record_in row) ++ records_in rows

-- what a region answered
abbrev pub found_of : Result RegionRows Refusal → Result Found Refusal
found_of (Ok answer) = Ok (record { seq = answer.seq; rows = answer.rows.items })
found_of (Err refusal) = Err refusal
