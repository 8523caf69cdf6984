use Rattle.component_image.specs.Laws.Newest.{open-behind}
use Rattle.component_image.proofs.laws.newest_component_ends_last.Goals as goal

pub returns : goal.returns
returns c = open-behind
