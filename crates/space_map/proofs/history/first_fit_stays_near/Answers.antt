use Rattle.space_map.proofs.Near.{stays_near}
use Rattle.space_map.proofs.history.first_fit_stays_near.Goals as goal

pub returns : goal.returns
returns c = stays_near
