use Rattle.order_merge.specs.laws.Living.{Fits-frozen, Fits-merge, Fits-merge_oldest}
use Rattle.primary_ix.specs.Reading.{prim_reading}
use Rattle.primary_ix.specs.Wanted.{wanted_rows}
use Rattle.primary_ix.proofs.laws.placed_rows_fit.Goals as goal

pub returns-clause-frozen : goal.returns-clause-frozen
returns-clause-frozen c table active disk fits = Fits-frozen prim_reading active disk (wanted_rows table) fits

pub returns-clause-among : goal.returns-clause-among
returns-clause-among c table before among after merged is fits = Fits-merge prim_reading before among after merged (wanted_rows table) is fits

pub returns-clause-oldest : goal.returns-clause-oldest
returns-clause-oldest c table before among merged is fits = Fits-merge_oldest prim_reading before among merged (wanted_rows table) is fits
