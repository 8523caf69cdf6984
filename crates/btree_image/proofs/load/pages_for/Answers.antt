use Rattle.std.proofs.Common.{ℕ, ◌+◌, ◌<◌, arith, ap, subst}
use Rattle.tree_shape.specs.Shape.{level_start, IsPlace}
use Rattle.btree_image.specs.Image.{shape_of}
use Rattle.btree_image.proofs.Widths.{most_rows-least, inner_room}
use Rattle.tree_shape.specs.Laws.Places.{pages_fit}
use Rattle.btree_image.proofs.load.pages_for.Goals as goal

pub overflow_cast-result : goal.overflow_cast-result
overflow_cast-result g c =
    let l = g.T.TreeRow.layout in
    let k = g.met.T.TreeRow.kinds in
    let root = c.pages.ensures.root in
    let start = ap (λ s. level_start s root.0) c.shape.ensures.shape in
    let fits = pages_fit (shape_of l c.args.rows) (most_rows-least l.leaf k.leaf_kind) (inner_room l _ _ _ k) (omega arith) root.0 (let low = root.2 in omega arith) in
    omega (arith, fits, start, root.3)

pub returns-clause-all : goal.returns-clause-all
returns-clause-all g c =
    subst (λ s. (level at : ℕ) → IsPlace s level at → level_start s level + at < c.pages.result) c.shape.ensures.shape c.pages.ensures.all
