use Rattle.component_image.specs.Laws.Keeping.{append-images, append-rests}
use Rattle.component_image.proofs.laws.appends_keep_the_table.Goals as goal

pub returns-clause-images : goal.returns-clause-images
returns-clause-images c = append-images

pub returns-clause-rests : goal.returns-clause-rests
returns-clause-rests c = append-rests
