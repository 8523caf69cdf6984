-- The curve of order k is a bijection from the square of side 2 ^ k to the numbers below 2 ^ k * 2 ^ k.
-- No public contract needs this file.
use Rattle.std.proofs.Common.{◌≡◌, ℕ, zero, suc, ◌+◌, ◌*◌, ◌/◌, ◌%◌, ◌^◌, ◌<◌, ◌≤◌, arith, ap, sym, ◌∙◌, inl, inr}
use Rattle.std.proofs.Math.Nat.{mul-le-mul_left}
use Rattle.std.proofs.lemmas.Nat.{div-add-mod', div_below, mod_below}
use Rattle.std.proofs.lemmas.Bool.{cases_order}
use Rattle.hilbert_key.specs.Curve.{curve_value}
use Rattle.hilbert_key.specs.laws.Bounds.{curve_value-lt, square-suc, square_pos}
use Rattle.hilbert_key.specs.laws.Quadrants.{lies, raised, raised-below, curve_value-raised, curve_value-zero}

-- of two numbers with their last digits below n, the greater first digit decides
pub digit_lt : (n q r u v : ℕ) → q < r → u < n → q * n + u < r * n + v
digit_lt n q r u v p h =
    let m : n * suc q ≤ n * r = mul-le-mul_left n p in
    omega arith

-- equal numbers have equal digits
pub same_digits : (n q r u v : ℕ) → q * n + u ≡ r * n + v → u < n → v < n → (q ≡ r) × (u ≡ v)
same_digits n q r u v e h g =
    elim (cases_order q r) [
      | inl s ↦ (s, let t : q * n ≡ r * n = ap (λ w. w * n) s in omega arith)
      | inr o ↦ elim o [
        | inl p ↦ absurd (let l = digit_lt n q r u v p h in omega arith)
        | inr p ↦ absurd (let l = digit_lt n r q v u p g in omega arith)
      ]
    ]

-- no two points of a square have the same value
pub curve_value-injective : (k x y v w : ℕ) → x < 2 ^ k → y < 2 ^ k → v < 2 ^ k → w < 2 ^ k
    → curve_value k x y ≡ curve_value k v w → ◌≡◌ {A = ℕ × ℕ} (x, y) (v, w)
curve_value-injective zero x y v w a b c d e =
    let f : x ≡ v = omega arith in
    let g : y ≡ w = omega arith in
    cc
curve_value-injective (suc k) x y v w a b c d e =
    let one = lies k x y a b in
    let two = lies k v w c d in
    let digits = same_digits (2 ^ k * 2 ^ k) one.quadrant two.quadrant _ _
    (omega (arith, one.value, two.value, e))
    (curve_value-lt k one.x_there one.y_there one.x_below one.y_below)
    (curve_value-lt k two.x_there two.y_there two.x_below two.y_below) in
    let below = curve_value-injective k one.x_there one.y_there two.x_there two.y_there
    one.x_below one.y_below two.x_below two.y_below digits.1 in
    sym one.point ∙ same_raised (2 ^ k) _ _ _ _ _ _ digits.0 below ∙ two.point
  where
    same_raised : (h q r x y v w : ℕ) → q ≡ r → ◌≡◌ {A = ℕ × ℕ} (x, y) (v, w) → raised h q x y ≡ raised h r v w
    same_raised h q r x y v w e f = rw e (ap (λ p. raised h r p.0 p.1) f)

-- a point of a value
pub record HasPoint (k v : ℕ) : Type 0 where
  pub x : ℕ
  pub y : ℕ
  pub x_below : x < 2 ^ k
  pub y_below : y < 2 ^ k
  pub value : curve_value k x y ≡ v

-- each value has a point
pub point_at : (k v : ℕ) → v < 2 ^ k * 2 ^ k → HasPoint k v
point_at zero v h = record { x = 0; y = 0; x_below = omega arith; y_below = omega arith; value = omega (arith, curve_value-zero 0 0) }
point_at (suc k) v h =
    let pos : 0 < 2 ^ k * 2 ^ k = square_pos k in
    let four = square-suc k in
    let whole : v / (2 ^ k * 2 ^ k) * (2 ^ k * 2 ^ k) + v % (2 ^ k * 2 ^ k) ≡ v = div-add-mod' v (2 ^ k * 2 ^ k) in
    let quadrant : v / (2 ^ k * 2 ^ k) < 4 = div_below v (2 ^ k * 2 ^ k) 4 pos (omega arith) in
    let there = point_at k (v % (2 ^ k * 2 ^ k)) (mod_below v (2 ^ k * 2 ^ k) pos) in
    let below = raised-below k (v / (2 ^ k * 2 ^ k)) there.x there.y there.x_below there.y_below in
    let value = curve_value-raised k (v / (2 ^ k * 2 ^ k)) there.x there.y quadrant there.x_below there.y_below in
    record {
      x = (raised (2 ^ k) (v / (2 ^ k * 2 ^ k)) there.x there.y).0;
      y = (raised (2 ^ k) (v / (2 ^ k * 2 ^ k)) there.x there.y).1;
      x_below = below.0;
      y_below = below.1;
      value = value ∙ omega (arith, there.value, whole);
    }
