use Rattle.order_merge.specs.laws.Deletions.{FitsDeleted-merge, FitsDeleted-merge_oldest}
use Rattle.order_merge.proofs.laws.merged_keyed_lists_fit.Goals as goal

pub returns-clause-among : goal.returns-clause-among
returns-clause-among g c = FitsDeleted-merge

pub returns-clause-oldest : goal.returns-clause-oldest
returns-clause-oldest g c = FitsDeleted-merge_oldest
