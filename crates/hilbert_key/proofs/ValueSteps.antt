-- A value by its digits of base 4, from the first on and from the last on.
use Rattle.std.proofs.Common.{◌≡◌, ℕ, zero, suc, ◌+◌, ◌-◌, ◌*◌, ◌^◌, ◌<◌, ◌≤◌, arith, ap, ◌/◌, ◌%◌}
use Rattle.std.proofs.Math.Nat.{pow-succ', mul-le-mul_left}
use Rattle.std.proofs.lemmas.Nat.{pow_pos}
use Rattle.hilbert_key.specs.Curve.{curve_value}
use Rattle.hilbert_key.specs.laws.Bounds.{square-suc}

-- one level further down, the value so far gains one digit of base 4
pub next_total : (level so_far quadrant x y below total : ℕ) → 0 < level
    → so_far * 2 ^ level * 2 ^ level + curve_value level x y ≡ total
    → curve_value (suc (level - 1)) x y ≡ quadrant * 2 ^ (level - 1) * 2 ^ (level - 1) + below
    → (4 * so_far + quadrant) * 2 ^ (level - 1) * 2 ^ (level - 1) + below ≡ total
next_total zero s q x y b t p e d = absurd (omega arith)
next_total (suc k) s q x y b t p e d =
    let i : suc k - 1 ≡ k = omega arith in
    let d' : curve_value (suc k) x y ≡ q * 2 ^ k * 2 ^ k + b = rw i at d in
    rw i (omega (arith, square-suc k, e, d', ap-total k s))
  where
    ap-total : (k s : ℕ) → s * 2 ^ suc k * 2 ^ suc k ≡ 4 * s * 2 ^ k * 2 ^ k
    ap-total k s = rw (pow-succ' 2 k) (omega arith)

-- so it never passes the whole
pub below_total : (digits k rest total bound : ℕ) → digits * 2 ^ k * 2 ^ k + rest ≡ total → total < bound → digits < bound
below_total d k r t b e h =
    let p : 1 ≤ 2 ^ k = pow_pos k in
    let once : d * 1 ≤ d * 2 ^ k = mul-le-mul_left d p in
    let twice : d * 2 ^ k * 1 ≤ d * 2 ^ k * 2 ^ k = mul-le-mul_left (d * 2 ^ k) p in
    omega arith

-- one level further up, the number to come loses its last digit of base 4
pub next_rest : (level rest below value total : ℕ)
    → rest * 2 ^ level * 2 ^ level + below ≡ total
    → value ≡ (rest % 4) * 2 ^ level * 2 ^ level + below
    → (rest / 4) * 2 ^ suc level * 2 ^ suc level + value ≡ total
next_rest k r b v t e d =
    let parts : 4 * (r / 4) + r % 4 ≡ r = omega arith in
    let square : r / 4 * 2 ^ suc k * 2 ^ suc k ≡ 4 * (r / 4) * 2 ^ k * 2 ^ k = rw (pow-succ' 2 k) (omega arith) in
    let whole : (4 * (r / 4) + r % 4) * 2 ^ k * 2 ^ k ≡ r * 2 ^ k * 2 ^ k = ap (λ w. w * 2 ^ k * 2 ^ k) parts in
    omega arith
