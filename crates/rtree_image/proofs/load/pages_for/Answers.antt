use Rattle.std.proofs.Common.{ℕ, ◌+◌, ◌<◌, arith, lit≤, ap, subst}
use Rattle.tree_shape.specs.Shape.{level_start, IsPlace}
use Rattle.tree_shape.specs.Laws.Places.{pages_fit}
use Rattle.rtree_image.specs.Image.{tree_of}
use Rattle.rtree_image.proofs.load.pages_for.Goals as goal

pub overflow_cast-result : goal.overflow_cast-result
overflow_cast-result c =
    let root = c.pages.ensures.root in
    let start = ap (λ s. level_start s root.0) c.shape.ensures in
    let fits = pages_fit (tree_of c.args.rows) (lit≤ tt) (lit≤ tt) (omega arith) root.0 (let low = root.2 in omega arith) in
    omega (arith, fits, start, root.3)

pub returns-clause-all : goal.returns-clause-all
returns-clause-all c =
    subst (λ s. (level at : ℕ) → IsPlace s level at → level_start s level + at < c.pages.result) c.shape.ensures c.pages.ensures.all
