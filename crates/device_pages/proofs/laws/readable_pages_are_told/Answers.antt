use Rattle.device_pages.specs.Lending.{page_bytes}
use Rattle.device_pages.specs.Laws.Lending.{contents-readable, contents-told}
use Rattle.device_pages.proofs.laws.readable_pages_are_told.Goals as goal

pub returns : goal.returns
returns c = λ extents s. ((λ told. (contents-told extents s (page_bytes s) told).0), contents-readable extents s)
