use Rattle.std.proofs.Common.{◌≡◌, ℕ, ◌+◌, ◌-◌, ◌*◌, ◌/◌, ◌^◌, ◌<◌, ◌≤◌, ◌↔◌, arith, sym, ◌∙◌}
use Rattle.std.proofs.Math.Nat.{mul-le-mul_left}
use Rattle.std.proofs.lemmas.Nat.{pow_pos}
use Rattle.hilbert_key.specs.Curve.{curve_value}
use Rattle.hilbert_key.specs.laws.Bounds.{last_place}
use Rattle.hilbert_key.proofs.Stretch.{stretch_fits, before_below, stretch_is, within_stretch}
use Rattle.hilbert_key.proofs.square_values.Goals as goal

-- the square's values fit those of the whole
record Fits (b s : ℕ) : Type 0 where
  first : b * s ≤ b * s * s
  end : b * s * s + s * s ≤ 2 ^ 32
  some : 1 ≤ s * s
  last : (s - 1) * s + (s - 1) + 1 ≡ s * s

fits : (k j x y b s : ℕ) → k + j ≡ 16 → x < 65536 → y < 65536 → b ≡ curve_value 16 x y / (2 ^ j * 2 ^ j) → s ≡ 2 ^ j → Fits b s
fits k j x y b s e x_in y_in is side =
    let below = before_below k j x y (rw e x_in) (rw e y_in) in
    let all : b * 2 ^ j * 2 ^ j + 2 ^ j * 2 ^ j ≤ 2 ^ 32 = rw is (rw e at (stretch_fits k j _ below)) in
    let pos : 1 ≤ 2 ^ j = pow_pos j in
    let once : 2 ^ j * 1 ≤ 2 ^ j * 2 ^ j = mul-le-mul_left (2 ^ j) pos in
    let more : b * 2 ^ j * 1 ≤ b * 2 ^ j * 2 ^ j = mul-le-mul_left (b * 2 ^ j) pos in
    let l = last_place (2 ^ j) pos in
    rw side record { first = omega arith; end = all; some = omega arith; last = l }

pub overflow_mul-first : goal.overflow_mul-first
overflow_mul-first c =
    let f = fits (16 - c.args.order) c.args.order c.args.x c.args.y _ _ (omega arith) (omega arith) (omega arith) c.squares_before.ensures c.side-side.ensures in
    omega (arith, f.first, f.end, f.some)

pub overflow_mul-first-2 : goal.overflow_mul-first-2
overflow_mul-first-2 c =
    let f = fits (16 - c.args.order) c.args.order c.args.x c.args.y _ _ (omega arith) (omega arith) (omega arith) c.squares_before.ensures c.side-side.ensures in
    omega (arith, f.end, f.some)

pub overflow_add-result-2 : goal.overflow_add-result-2
overflow_add-result-2 c =
    let f = fits (16 - c.args.order) c.args.order c.args.x c.args.y _ _ (omega arith) (omega arith) (omega arith) c.squares_before.ensures c.side-side.ensures in
    omega (arith, f.end, f.last)

-- as many squares lie before two points where the points lie in one square
exactly : (k j x y p q b s : ℕ) → k + j ≡ 16 → x < 65536 → y < 65536 → p < 65536 → q < 65536
    → b ≡ curve_value 16 x y / (2 ^ j * 2 ^ j) → s ≡ 2 ^ j
    → ((b * s * s ≤ curve_value 16 p q) × (curve_value 16 p q ≤ b * s * s + ((s - 1) * s + (s - 1))))
    ↔ ((p / 2 ^ j ≡ x / 2 ^ j) × (q / 2 ^ j ≡ y / 2 ^ j))
exactly k j x y p q b s e x_in y_in p_in q_in is side =
    let within = within_stretch j b (curve_value 16 p q) in
    let one = rw e at (stretch_is k j x y p q (rw e x_in) (rw e y_in) (rw e p_in) (rw e q_in)) in
    rw side ((λ h. one.0 (within.0 h ∙ is)), (λ h. within.1 (one.1 h ∙ sym is)))

pub returns-clause-exactly : goal.returns-clause-exactly
returns-clause-exactly c p q p_in q_in =
    exactly (16 - c.args.order) c.args.order c.args.x c.args.y p q _ _ (omega arith) (omega arith) (omega arith) p_in q_in
    c.squares_before.ensures c.side-side.ensures
