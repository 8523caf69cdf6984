use Rattle.std.proofs.Common.{◌≡◌, ◌-◌, map, take, drop}
use Rattle.page_codec.specs.Page.{row_width}
use Rattle.page_codec.specs.Written.{page_of}
use Rattle.page_codec.specs.Adding.{AllOfWidth}
use Rattle.page_codec.specs.declared.kinds.TheConstants.{RTREE_LEAF}
use Rattle.rtree_image.specs.Rows.{row_bytes}
use Rattle.rtree_image.proofs.load.load_leaf.Given as goal

abbrev pub invariant-loop-i : goal.invariant-loop-i
invariant-loop-i l = record {
  written : l.page ≡ page_of RTREE_LEAF 0 (map row_bytes (take (l.i - l.from) (drop l.from l.fn.rows)));
  wide : AllOfWidth (row_width RTREE_LEAF) (map row_bytes (take (l.i - l.from) (drop l.from l.fn.rows)));
}
