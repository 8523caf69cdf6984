use Rattle.std.proofs.Common.{◌≡◌, ◌<◌, arith, ◌∙◌}
use Rattle.std.proofs.Math.Numerals.{add-one}
use Rattle.hilbert_key.specs.Curve.{curve_value}
use Rattle.hilbert_key.specs.laws.Quadrants.{curve_value-zero}
use Rattle.hilbert_key.specs.laws.Points.{curve_value-injective}
use Rattle.hilbert_key.proofs.ValueSteps.{next_rest}
use Rattle.hilbert_key.proofs.point_of.Goals as goal

pub loop-level-init : goal.loop-level-init
loop-level-init c = record {
  level_in = omega arith;
  x_in = omega arith;
  y_in = omega arith;
  total = omega (arith, curve_value-zero 0 0);
}

pub loop-level-preserved : goal.loop-level-preserved
loop-level-preserved c = rw add-one record {
  level_in = omega arith;
  x_in = c.ascend-place.ensures.x_below;
  y_in = c.ascend-place.ensures.y_below;
  total = next_rest c.loop-level.level _ _ _ _ c.loop-level.invariant.total c.ascend-place.ensures.value;
}

pub returns-clause-only : goal.returns-clause-only
returns-clause-only c x y x_in y_in e =
    let full : c.loop-level.level ≡ 16 = omega arith in
    let a : c.loop-level.x < 65536 = rw full at c.loop-level.invariant.x_in in
    let b : c.loop-level.y < 65536 = rw full at c.loop-level.invariant.y_in in
    let total = rw full at c.loop-level.invariant.total in
    let same : c.args.value ≡ curve_value 16 c.loop-level.x c.loop-level.y = omega (arith, total) in
    curve_value-injective 16 x y c.loop-level.x c.loop-level.y x_in y_in a b (e ∙ same)
