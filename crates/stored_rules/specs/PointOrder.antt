-- The order of points that an index keeps: that of their values along the curve.
use Rattle.std.specs.Prelude.{◌≡◌, ℕ, ◌^◌, ◌<◌}
use Rattle.std.specs.Ordering.{nat_cmp}
use Rattle.std.specs.declared.cmp.Ordering.{Ordering}
use Rattle.hilbert_key.specs.Curve.{curve_value}
use Rattle.hilbert_key.specs.declared.TheConstants.{ORDER}

-- a point of the square
abbrev pub InSquare : ℕ × ℕ → Type 0
InSquare p = (p.0 < 2 ^ ORDER) × (p.1 < 2 ^ ORDER)

-- how two points stand on the curve
abbrev pub curve_order : ℕ × ℕ → ℕ × ℕ → Ordering
curve_order a b = nat_cmp (curve_value ORDER a.0 a.1) (curve_value ORDER b.0 b.1)

-- whatever the function answers at two points, it is their order along the curve
abbrev pub AnswersCurveOrder : (ℕ × ℕ → ℕ × ℕ → Ordering → Type 0) → Type 0
AnswersCurveOrder post = (a b : ℕ × ℕ) (r : Ordering) → InSquare a → InSquare b → post a b r → r ≡ curve_order a b
