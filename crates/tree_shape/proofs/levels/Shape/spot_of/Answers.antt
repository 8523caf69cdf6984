use Rattle.std.proofs.Common.{arith}
use Rattle.tree_shape.specs.Laws.Sizes.{level_start-zero, level_start-next}
use Rattle.tree_shape.proofs.levels.Shape.spot_of.Goals as goal

pub loop-level-init : goal.loop-level-init
loop-level-init c = let z = level_start-zero c.args.self in omega arith

pub loop-level-preserved : goal.loop-level-preserved
loop-level-preserved c =
    let next = level_start-next c.args.self c.loop-level.level in
    omega (arith, next, c.level_at-here.ensures.start, c.level_at-here.ensures.size)
