use Rattle.component_image.specs.Laws.Keeping.{rest-image}
use Rattle.component_image.proofs.laws.every_crash_keeps_the_table.Goals as goal

pub returns : goal.returns
returns c = rest-image
