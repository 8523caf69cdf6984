use Rattle.component_image.specs.Laws.Counting.{told-count}
use Rattle.component_image.proofs.laws.told_records_count.Goals as goal

pub returns : goal.returns
returns c = told-count
