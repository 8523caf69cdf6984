use Rattle.tree_tests.proofs.LentTrees.{lent_pair}
use Rattle.tree_tests.proofs.primary.look.Goals as goal

pub lookup_disk-requires : goal.lookup_disk-requires
lookup_disk-requires c = lent_pair
