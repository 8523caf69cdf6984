use Rattle.std.proofs.Common.{arith}
use Rattle.tree_tests.proofs.LentTrees.{lent_tree}
use Rattle.tree_tests.proofs.primary_rows.look.Goals as goal

pub find-requires : goal.find-requires
find-requires c = lent_tree c.args.tree.first c.args.tree.rows (omega arith) (omega arith)
