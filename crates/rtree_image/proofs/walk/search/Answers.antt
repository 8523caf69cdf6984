use Rattle.std.proofs.Common.{arith}
use Rattle.rtree_image.proofs.Shown.{never_damaged}
use Rattle.rtree_image.proofs.walk.search.Goals as goal

pub returns-in-Err-clause-found : goal.returns-in-Err-clause-found
returns-in-Err-clause-found g c list shown = never_damaged c.args.tree.first c.args.tree.rows (omega arith) _ list shown c.in-Err.fault c.in-Err.ensures.reads.1.damaged
