use Rattle.device_pages.specs.Laws.Asked.{clock-given}
use Rattle.device_pages.proofs.laws.clock_counts.Goals as goal

pub returns : goal.returns
returns c = clock-given
