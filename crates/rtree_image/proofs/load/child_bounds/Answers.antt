use Rattle.std.proofs.Common.{arith}
use Rattle.rtree_image.proofs.load.child_bounds.Goals as goal

pub overflow_mul-from : goal.overflow_mul-from
overflow_mul-from c = omega (arith, c.requires.inside)
