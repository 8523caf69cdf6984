use Rattle.std.proofs.Common.{◌∙◌, ap, sym, refl, get_or}
use Rattle.rtree_image.specs.Bounds.{bounding, widened}
use Rattle.rtree_image.specs.declared.rows.RtRow.{RtRow}
use Rattle.rtree_image.proofs.Bounded.{bounding-more}
use Rattle.rtree_image.proofs.bounds.bounds_of.Goals as goal

pub loop-i-init : goal.loop-i-init
unfolding bounding
loop-i-init c = refl

pub loop-i-preserved : goal.loop-i-preserved
loop-i-preserved c =
    let rows = c.args.rows.now in
    let none : RtRow = record { point = record { x = 0; y = 0 }; key = 0 } in
    c.widen-bounds.ensures
    ∙ (ap (λ b. widened b (get_or rows c.loop-i.i none).point) c.loop-i.invariant ∙ sym (bounding-more rows c.loop-i.i none c.loop-i-test.true))
