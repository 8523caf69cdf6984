use Rattle.order_merge.specs.laws.Moves.{Fits-places}
use Rattle.order_merge.proofs.laws.moved_key_fits.Goals as goal

pub returns : goal.returns
returns g c i laws o = Fits-places i laws o
