use Rattle.order_merge.specs.laws.Living.{Fits-frozen}
use Rattle.order_merge.proofs.laws.placed_list_fits.Goals as goal

pub returns-clause-frozen : goal.returns-clause-frozen
returns-clause-frozen g c = Fits-frozen g.E.Entry.reading

pub returns-clause-placed : goal.returns-clause-placed
returns-clause-placed g c active frozen disk wanted fits = fits
