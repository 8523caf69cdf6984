use Rattle.std.proofs.Common.{◌+◌, ◌^◌, arith, lit≤}
use Rattle.std.proofs.lemmas.Bool.{lt-ltb}
use Rattle.tree_shape.specs.Shape.{level_start}
use Rattle.tree_shape.specs.Laws.Places.{number_fits}
use Rattle.rtree_image.specs.Image.{tree_of}
use Rattle.tree_tests.proofs.rtrees.look.Goals as goal

pub search-requires : goal.search-requires
search-requires c level at place =
    let fits = number_fits (tree_of c.args.rows) (lit≤ tt) (lit≤ tt) (omega arith) level at place in
    lt-ltb (0 + (level_start (tree_of c.args.rows) level + at)) (2 ^ 32) (omega arith)
