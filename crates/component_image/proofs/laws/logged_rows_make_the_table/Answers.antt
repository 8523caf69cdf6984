use Rattle.component_image.specs.Laws.Laid.{laid-changed}
use Rattle.component_image.proofs.laws.logged_rows_make_the_table.Goals as goal

pub returns : goal.returns
returns c = laid-changed
