use Rattle.order_merge.specs.laws.Deletions.{FitsDeleted-frozen}
use Rattle.order_merge.proofs.laws.placed_keyed_list_fits.Goals as goal

pub returns-clause-frozen : goal.returns-clause-frozen
returns-clause-frozen g c = FitsDeleted-frozen

pub returns-clause-placed : goal.returns-clause-placed
returns-clause-placed g c key active frozen disk wanted fits = fits
