use Rattle.std.proofs.Common.{◌≡◌, ℕ, suc, ◌+◌, ◌-◌, ◌*◌, ◌/◌, ◌^◌, ◌<◌, arith, sym, ◌∙◌, ap}
use Rattle.std.proofs.lemmas.Nat.{div-mul-add}
use Rattle.hilbert_key.specs.Curve.{curve_value}
use Rattle.hilbert_key.specs.laws.Bounds.{curve_value-lt}
use Rattle.hilbert_key.proofs.ValueSteps.{next_total, below_total}
use Rattle.hilbert_key.proofs.squares_before.Goals as goal

-- with its next digit, the number so far stays below the number of points
digits_fit : (level so_far quadrant x y below p q : ℕ) → 0 < level → p < 2 ^ 16 → q < 2 ^ 16
    → so_far * 2 ^ level * 2 ^ level + curve_value level x y ≡ curve_value 16 p q
    → curve_value (suc (level - 1)) x y ≡ quadrant * 2 ^ (level - 1) * 2 ^ (level - 1) + below
    → 4 * so_far + quadrant < 2 ^ 32
digits_fit level s d x y b p q pos in_x in_y e v =
    below_total (4 * s + d) (level - 1) b _ (2 ^ 32) (next_total level s d x y b _ pos e v) (curve_value-lt 16 p q in_x in_y)

pub overflow_add-squares : goal.overflow_add-squares
overflow_add-squares c =
    let fits = digits_fit c.loop-level.level _ _ _ _ _ c.args.x c.args.y (omega arith) (omega arith) (omega arith) c.loop-level.invariant.total c.descend-step.ensures.value in
    omega (arith, fits)

pub overflow_mul-squares : goal.overflow_mul-squares
overflow_mul-squares c =
    let fits = digits_fit c.loop-level.level _ _ _ _ _ c.args.x c.args.y (omega arith) (omega arith) (omega arith) c.loop-level.invariant.total c.descend-step.ensures.value in
    omega (arith, fits)

pub loop-level-preserved : goal.loop-level-preserved
loop-level-preserved c = record {
  level_in = omega arith;
  level_from = omega arith;
  x_in = omega arith;
  y_in = omega arith;
  total = next_total c.loop-level.level _ _ _ _ _ _ (omega arith) c.loop-level.invariant.total c.descend-step.ensures.value;
}

-- the last digits are those within the square
without_last : (k squares rest total : ℕ) → squares * 2 ^ k * 2 ^ k + rest ≡ total → rest < 2 ^ k * 2 ^ k → squares ≡ total / (2 ^ k * 2 ^ k)
without_last k s r t e h =
    let f : s * (2 ^ k * 2 ^ k) + r ≡ t = omega arith in
    sym (div-mul-add s (2 ^ k * 2 ^ k) r h) ∙ ap (λ n. n / (2 ^ k * 2 ^ k)) f

pub returns : goal.returns
returns c =
    let z : c.loop-level.level ≡ c.args.order = omega arith in
    let x_in = rw z at c.loop-level.invariant.x_in in
    let y_in = rw z at c.loop-level.invariant.y_in in
    let h = rw z at c.loop-level.invariant.total in
    without_last c.args.order _ _ _ h (curve_value-lt c.args.order _ _ x_in y_in)
