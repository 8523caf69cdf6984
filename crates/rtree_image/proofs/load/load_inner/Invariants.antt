use Rattle.std.proofs.Common.{◌≡◌, ◌-◌, suc, map, length}
use Rattle.page_codec.specs.Page.{row_width}
use Rattle.page_codec.specs.Written.{page_of}
use Rattle.page_codec.specs.Adding.{AllOfWidth}
use Rattle.page_codec.specs.declared.kinds.TheConstants.{RTREE_INNER}
use Rattle.tree_shape.specs.Shape.{numbers}
use Rattle.rtree_image.specs.Image.{tree_of, child_row}
use Rattle.rtree_image.proofs.load.load_inner.Given as goal

abbrev pub invariant-loop-child : goal.invariant-loop-child
invariant-loop-child l = record {
  written : l.page ≡ page_of RTREE_INNER (suc l.fn.below) (map (child_row (tree_of (length l.fn.rows)) l.fn.rows l.fn.below) (numbers l.from (l.child - l.from)));
  wide : AllOfWidth (row_width RTREE_INNER) (map (child_row (tree_of (length l.fn.rows)) l.fn.rows l.fn.below) (numbers l.from (l.child - l.from)));
}
