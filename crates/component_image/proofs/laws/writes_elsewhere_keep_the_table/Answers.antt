use Rattle.component_image.specs.Laws.Keeping.{elsewhere-images, elsewhere-rests}
use Rattle.component_image.proofs.laws.writes_elsewhere_keep_the_table.Goals as goal

pub returns : goal.returns
returns c pages log table s t at count now rest within told beside apart = (
  elsewhere-images pages log table s t at count now rest within told beside apart,
  elsewhere-rests pages log table s t at count now rest within told beside apart,
)
