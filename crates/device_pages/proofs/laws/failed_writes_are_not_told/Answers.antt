use Rattle.dev_model.specs.Story.{FailedWrite, with_call}
use Rattle.device_pages.specs.Laws.Lending.{contents-open, open_place}
use Rattle.device_pages.proofs.laws.failed_writes_are_not_told.Goals as goal

pub returns : goal.returns
returns c = λ extents s at new i place inside.
    contents-open extents (with_call s (FailedWrite at new)) i place (open_place s.past at new i inside)
