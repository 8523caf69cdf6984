use Rattle.component_image.specs.Laws.Added.{added-newest}
use Rattle.component_image.proofs.laws.added_component_is_the_newest.Goals as goal

pub returns : goal.returns
returns c = added-newest
