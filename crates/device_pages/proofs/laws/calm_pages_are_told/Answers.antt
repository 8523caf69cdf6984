use Rattle.device_pages.specs.Laws.Lending.{contents-settled}
use Rattle.device_pages.proofs.laws.calm_pages_are_told.Goals as goal

pub returns : goal.returns
returns c = contents-settled
