use Rattle.component_image.specs.Laws.Fitting.{fits-listed, fits-logged}
use Rattle.component_image.proofs.laws.lists_fit_their_table.Goals as goal

pub returns-clause-listed : goal.returns-clause-listed
returns-clause-listed c = fits-listed

pub returns-clause-logged : goal.returns-clause-logged
returns-clause-logged c = fits-logged
