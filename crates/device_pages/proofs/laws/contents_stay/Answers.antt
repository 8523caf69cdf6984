use Rattle.device_pages.specs.Laws.Asked.{contents-asked}
use Rattle.device_pages.proofs.laws.contents_stay.Goals as goal

pub returns : goal.returns
returns c = contents-asked
