use Rattle.std.proofs.Common.{◌≡◌}
use Rattle.tree_shape.specs.Shape.{span}
use Rattle.tree_shape.proofs.levels.Shape.span.Given as goal

abbrev pub invariant-loop-i : goal.invariant-loop-i
invariant-loop-i l = l.step ≡ span l.fn.self l._i
