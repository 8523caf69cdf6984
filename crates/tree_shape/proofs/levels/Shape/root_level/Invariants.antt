use Rattle.std.proofs.Common.{◌≡◌, ℕ, ◌-◌, ◌*◌, ◌^◌, ◌<◌, ◌≤◌}
use Rattle.tree_shape.specs.Shape.{level_size}
use Rattle.tree_shape.proofs.levels.Shape.root_level.Given as goal

abbrev pub invariant-loop-size : goal.invariant-loop-size
invariant-loop-size l = record {
  size : l.size ≡ level_size l.fn.self l.level;
  some : 1 ≤ l.size;
  low : l.level ≤ 33;
  halves : (l.size - 1) * 2 ^ l.level ≤ 2 ^ 32;
  lowest : (below : ℕ) → below < l.level → 1 < level_size l.fn.self below;
}

abbrev pub decreases-loop-size : goal.decreases-loop-size
decreases-loop-size l = l.size
