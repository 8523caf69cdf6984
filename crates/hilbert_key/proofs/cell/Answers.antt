use Rattle.std.proofs.Common.{◌<◌, ◌/◌, arith}
use Rattle.std.proofs.lemmas.Nat.{div_below}
use Rattle.hilbert_key.specs.Curve.{curve_value}
use Rattle.hilbert_key.specs.laws.Bounds.{curve_value-lt}
use Rattle.hilbert_key.proofs.cell.Goals as goal

pub overflow_cast-result : goal.overflow_cast-result
overflow_cast-result c =
    let l = curve_value-lt 16 c.args.x c.args.y (omega arith) (omega arith) in
    let b : curve_value 16 c.args.x c.args.y / 65536 < 65536 = div_below _ 65536 65536 (omega arith) l in
    omega (arith, c.squares_before.ensures, b)
