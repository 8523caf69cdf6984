-- How many values a square has.
-- No public contract needs this file.
use Rattle.std.proofs.Common.{◌≡◌, ℕ, zero, suc, ◌-◌, ◌*◌, ◌^◌, ◌+◌, ◌<◌, ◌≤◌, arith, refl, inl, inr}
use Rattle.std.proofs.Math.Nat.{pow-succ', mul-le-mul_left}
use Rattle.std.proofs.lemmas.Nat.{pow_pos}
use Rattle.std.proofs.lemmas.Bool.{cases_lt}
use Rattle.hilbert_key.specs.Curve.{curve_value}
use Rattle.hilbert_key.specs.laws.Quadrants.{lower_left, upper_left, upper_right, lower_right, curve_value-zero}

-- the next square has four times the points
pub square-suc : (k : ℕ) → 2 ^ suc k * 2 ^ suc k ≡ 4 * (2 ^ k * 2 ^ k)
square-suc k = rw (pow-succ' 2 k) (omega arith)

-- a square has some point
pub square_pos : (k : ℕ) → 0 < 2 ^ k * 2 ^ k
square_pos k =
    let p : 1 ≤ 2 ^ k = pow_pos k in
    let t : 2 ^ k * 1 ≤ 2 ^ k * 2 ^ k = mul-le-mul_left (2 ^ k) p in
    omega arith

-- the last place in a square, from its first
pub last_place : (side : ℕ) → 0 < side → (side - 1) * side + (side - 1) + 1 ≡ side * side
last_place zero h = absurd (omega arith)
last_place (suc m) h = let i : suc m - 1 ≡ m = omega arith in rw i (omega arith)

-- a curve of order k has 2 ^ k * 2 ^ k values
pub curve_value-lt : (k x y : ℕ) → x < 2 ^ k → y < 2 ^ k → curve_value k x y < 2 ^ k * 2 ^ k
curve_value-lt zero x y p q = omega (arith, curve_value-zero x y)
curve_value-lt (suc k) x y p q =
    let s : 2 ^ suc k * 2 ^ suc k ≡ 4 * (2 ^ k * 2 ^ k) = square-suc k in
    let e : 2 ^ suc k ≡ 2 * 2 ^ k = pow-succ' 2 k in
    elim (cases_lt x (2 ^ k)) [
      | inl a ↦ elim (cases_lt y (2 ^ k)) [
        | inl b ↦ omega (arith, lower_left k (2 ^ k) x y refl a b, curve_value-lt k y x b a, e)
        | inr b ↦ omega (arith, upper_left k (2 ^ k) x y refl a b, curve_value-lt k x (y - 2 ^ k) a (omega arith), e)
      ]
      | inr a ↦ elim (cases_lt y (2 ^ k)) [
        | inl b ↦ omega (arith, lower_right k (2 ^ k) x y refl a b, curve_value-lt k (2 ^ k - 1 - y) (2 * 2 ^ k - 1 - x) (omega arith) (omega arith), e)
        | inr b ↦ omega (arith, upper_right k (2 ^ k) x y refl a b, curve_value-lt k (x - 2 ^ k) (y - 2 ^ k) (omega arith) (omega arith), e)
      ]
    ]
