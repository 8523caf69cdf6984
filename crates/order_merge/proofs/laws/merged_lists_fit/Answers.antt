use Rattle.order_merge.specs.laws.Living.{Fits-merge, Fits-merge_oldest}
use Rattle.order_merge.proofs.laws.merged_lists_fit.Goals as goal

pub returns-clause-among : goal.returns-clause-among
returns-clause-among g c = Fits-merge g.E.Entry.reading

pub returns-clause-oldest : goal.returns-clause-oldest
returns-clause-oldest g c = Fits-merge_oldest g.E.Entry.reading
