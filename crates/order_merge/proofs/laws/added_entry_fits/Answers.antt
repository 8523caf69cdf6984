use Rattle.order_merge.specs.laws.Living.{Fits-with_entry}
use Rattle.order_merge.proofs.laws.added_entry_fits.Goals as goal

pub returns : goal.returns
returns g c = Fits-with_entry g.E.Entry.reading g.met.E.Entry.key_order
