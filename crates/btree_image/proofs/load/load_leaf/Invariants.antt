use Rattle.std.proofs.Common.{◌≡◌, ◌-◌, map, take, drop}
use Rattle.page_codec.specs.Page.{row_width}
use Rattle.page_codec.specs.Written.{page_of}
use Rattle.page_codec.specs.Adding.{AllOfWidth}
use Rattle.btree_image.proofs.load.load_leaf.Given as goal

abbrev pub invariant-loop-i : goal.invariant-loop-i
invariant-loop-i g l = record {
  written : l.page ≡ page_of g.T.TreeRow.layout.leaf 0 (map g.T.TreeRow.layout.to_bytes (take (l.i - l.from) (drop l.from l.rows)));
  wide : AllOfWidth (row_width g.T.TreeRow.layout.leaf) (map g.T.TreeRow.layout.to_bytes (take (l.i - l.from) (drop l.from l.rows)));
}
