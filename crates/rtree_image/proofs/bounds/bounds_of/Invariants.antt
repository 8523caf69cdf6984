use Rattle.std.proofs.Common.{◌≡◌, take}
use Rattle.rtree_image.specs.Bounds.{bounding}
use Rattle.rtree_image.proofs.bounds.bounds_of.Given as goal

abbrev pub invariant-loop-i : goal.invariant-loop-i
invariant-loop-i l = l.bounds ≡ bounding (take l.i l.fn.rows)
