use Rattle.std.proofs.Common.{arith}
use Rattle.tree_shape.specs.Laws.Places.{number_fits}
use Rattle.btree_image.specs.Image.{shape_of}
use Rattle.primary_ix.specs.Rows.{prim_layout}
use Rattle.tree_tests.proofs.jobs.flush.Goals as goal

pub flush-requires-clause-fits : goal.flush-requires-clause-fits
flush-requires-clause-fits c =
    let root = c.need.ensures.root in
    let alone = root.1.alone in
    let low = number_fits (shape_of prim_layout c.args.rows) (omega arith) (omega arith) (omega arith) root.0 0 (record { inside = omega arith; up_to_root = root.1.lowest }) in
    omega (arith, root.2)
