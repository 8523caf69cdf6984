use Rattle.std.proofs.Common.{arith}
use Rattle.tree_tests.proofs.LentTrees.{lent_tree}
use Rattle.tree_tests.proofs.primary_rows.scanned.Goals as goal

pub scan-requires : goal.scan-requires
scan-requires c = lent_tree c.args.tree.first c.args.tree.rows (omega arith) (omega arith)
