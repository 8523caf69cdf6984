use Rattle.std.proofs.Common.{◌+◌, ◌∙◌, ap, arith}
use Rattle.tree_shape.specs.Shape.{level_start}
use Rattle.tree_shape.specs.Laws.Places.{before_root, root_unique}
use Rattle.tree_shape.proofs.levels.Shape.pages.Goals as goal

pub returns-clause-root : goal.returns-clause-root
returns-clause-root c = (c.root_level.result, c.root_level.ensures.root, c.root_level.ensures.low, ap (λ start. start + 1) c.level_at.ensures.start)

pub returns-clause-last : goal.returns-clause-last
returns-clause-last c root at_root =
    let s = c.args.self in
    ap (λ start. start + 1) (c.level_at.ensures.start ∙ ap (level_start s) (root_unique s c.root_level.result root c.root_level.ensures.root at_root))

pub returns-clause-all : goal.returns-clause-all
returns-clause-all c level at place =
    let start = c.level_at.ensures.start in
    let below = before_root c.args.self c.root_level.result level at c.root_level.ensures.root place in
    omega (arith, start, below)
