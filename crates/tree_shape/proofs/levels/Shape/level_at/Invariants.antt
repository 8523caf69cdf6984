use Rattle.std.proofs.Common.{◌≡◌, ◌*◌, ◌^◌, ◌<◌, ◌≤◌}
use Rattle.tree_shape.specs.Shape.{level_size, level_start}
use Rattle.tree_shape.proofs.levels.Shape.level_at.Given as goal

abbrev pub invariant-loop-i : goal.invariant-loop-i
invariant-loop-i l = record {
  start : l.at.start ≡ level_start l.fn.self l._i;
  size : l.at.size ≡ level_size l.fn.self l._i;
  some : 1 ≤ l.at.size;
  size_below : l.at.size < 2 ^ 32;
  start_below : l.at.start ≤ l._i * 2 ^ 32;
}
