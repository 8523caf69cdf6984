use Rattle.order_merge.specs.laws.Deletions.{FitsDeleted-rewritten, FitsDeleted-stays}
use Rattle.order_merge.proofs.laws.rewritten_list_fits.Goals as goal

pub returns-clause-written : goal.returns-clause-written
returns-clause-written g c key old_list new_list older wanted k new fits w of_key = FitsDeleted-rewritten key old_list new_list older wanted k new fits w of_key

pub returns-clause-stays : goal.returns-clause-stays
returns-clause-stays g c = FitsDeleted-stays
