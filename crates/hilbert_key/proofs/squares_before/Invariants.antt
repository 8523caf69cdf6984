use Rattle.std.proofs.Common.{◌≡◌, ◌+◌, ◌*◌, ◌^◌, ◌<◌, ◌≤◌}
use Rattle.hilbert_key.specs.Curve.{curve_value}
use Rattle.hilbert_key.proofs.squares_before.Given as goal

abbrev pub invariant-loop-level : goal.invariant-loop-level
invariant-loop-level l = record {
  level_in : l.level ≤ 16;
  level_from : l.order ≤ l.level;
  x_in : l.x < 2 ^ l.level;
  y_in : l.y < 2 ^ l.level;
  total : l.squares * 2 ^ l.level * 2 ^ l.level + curve_value l.level l.x l.y ≡ curve_value 16 l.fn.x l.fn.y;
}

abbrev pub decreases-loop-level : goal.decreases-loop-level
decreases-loop-level l = l.level
