use Rattle.std.proofs.Common.{◌≡◌, ◌++◌, drop}
use Rattle.table_model.specs.Table.{rows_inside}
use Rattle.store_core.specs.Regions.{records_in}
use Rattle.store_core.proofs.region.inside.Given as goal

abbrev pub invariant-loop-row : goal.invariant-loop-row
invariant-loop-row l = l.list.items ++ rows_inside l.rect (records_in (drop l.row-index l.rows)) ≡ rows_inside l.rect (records_in l.rows)
