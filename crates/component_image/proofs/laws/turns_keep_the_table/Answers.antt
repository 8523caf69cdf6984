use Rattle.component_image.specs.Laws.Keeping.{turn-images, turn-rests}
use Rattle.component_image.proofs.laws.turns_keep_the_table.Goals as goal

pub returns-clause-images : goal.returns-clause-images
returns-clause-images c = turn-images

pub returns-clause-rests : goal.returns-clause-rests
returns-clause-rests c = turn-rests
