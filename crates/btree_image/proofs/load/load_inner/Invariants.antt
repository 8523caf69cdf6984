use Rattle.std.proofs.Common.{◌≡◌, ◌-◌, suc, map}
use Rattle.page_codec.specs.Page.{row_width}
use Rattle.page_codec.specs.Written.{page_of}
use Rattle.page_codec.specs.Adding.{AllOfWidth}
use Rattle.tree_shape.specs.Shape.{numbers}
use Rattle.btree_image.specs.Image.{child_row}
use Rattle.btree_image.proofs.load.load_inner.Given as goal

abbrev pub invariant-loop-child : goal.invariant-loop-child
invariant-loop-child g l = record {
  written : l.page ≡ page_of g.T.TreeRow.layout.inner (suc l.below) (map (child_row g.T.TreeRow.layout l.rows l.below) (numbers l.from (l.child - l.from)));
  wide : AllOfWidth (row_width g.T.TreeRow.layout.inner) (map (child_row g.T.TreeRow.layout l.rows l.below) (numbers l.from (l.child - l.from)));
}
