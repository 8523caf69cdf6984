use Rattle.component_image.specs.Laws.Showing.{one_table}
use Rattle.component_image.proofs.laws.image_has_one_table.Goals as goal

pub returns : goal.returns
returns c = one_table
