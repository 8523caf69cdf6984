use Rattle.std.proofs.Common.{◌≤◌}
use Rattle.tree_shape.specs.Shape.{level_start}
use Rattle.tree_shape.proofs.levels.Shape.spot_of.Given as goal

abbrev pub invariant-loop-level : goal.invariant-loop-level
invariant-loop-level l = level_start l.fn.self l.level ≤ l.n
