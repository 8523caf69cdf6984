use Rattle.std.proofs.Common.{arith}
use Rattle.region_cover.proofs.Meeting.{corners_meet}
use Rattle.region_cover.proofs.cells_met.Goals as goal

pub returns-clause-exactly : goal.returns-clause-exactly
returns-clause-exactly c x y x_in y_in =
    let xs = c.of_cells.ensures.exactly x in
    let ys = c.of_cells-2.ensures.exactly y in
    let met = corners_meet c.args.rect.now c.corners-x1.result x y c.corners-x1.ensures.corners c.corners-x1.ensures.ordered (omega arith) (omega arith) x_in y_in in
    ((λ h. met.0 (xs.0 h.0, ys.0 h.1)), (λ h. let m = met.1 h in (xs.1 m.0, ys.1 m.1)))
