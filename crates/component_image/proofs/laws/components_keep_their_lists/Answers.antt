use Rattle.component_image.specs.Laws.Lists.{kept-lists, added-list}
use Rattle.component_image.proofs.laws.components_keep_their_lists.Goals as goal

pub returns-clause-kept : goal.returns-clause-kept
returns-clause-kept c = kept-lists

pub returns-clause-added : goal.returns-clause-added
returns-clause-added c = added-list
