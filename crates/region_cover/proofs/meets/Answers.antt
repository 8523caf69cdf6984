use Rattle.std.proofs.Common.{◌≡◌, ◌/◌, arith, ap, ◌∙◌}
use Rattle.hilbert_key.specs.Cells.{cell_number}
use Rattle.region_cover.proofs.meets.Goals as goal

pub returns : goal.returns
returns c =
    let there = c.point_of-x.ensures.there in
    let cell : cell_number c.point_of-x.result.0 c.point_of-x.result.1 ≡ c.args.cell = ap (λ v. v / 65536) there ∙ omega arith in
    let met = rw cell at (c.cells_met.ensures.exactly c.point_of-x.result.0 c.point_of-x.result.1 (omega arith) (omega arith)) in
    ((λ h. met.0 (c.has.ensures.0 h)), (λ h. c.has.ensures.1 (met.1 h)))
