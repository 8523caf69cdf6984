-- The order of two values by the first digit in which they differ.
use Rattle.std.proofs.Common.{◌≡◌, ℕ, zero, suc, ◌+◌, ◌-◌, ◌*◌, ◌^◌, ◌<◌, ◌≢◌, arith, inl, inr}
use Rattle.std.specs.Ordering.{nat_cmp}
use Rattle.std.proofs.lemmas.Bool.{cases_order}
use Rattle.std.proofs.lemmas.Bool.Decides.{nat_tests}
use Rattle.hilbert_key.specs.Curve.{curve_value}
use Rattle.hilbert_key.specs.laws.Points.{digit_lt}

pub cmp-digits : (n q r u v : ℕ) → q ≢ r → u < n → v < n → nat_cmp q r ≡ nat_cmp (q * n + u) (r * n + v)
cmp-digits n q r u v ne h g =
    elim (cases_order q r) [
      | inl e ↦ absurd (ne e)
      | inr o ↦ elim o [
        | inl p ↦ let l = digit_lt n q r u v p h in grind (arith, nat_tests)
        | inr p ↦ let l = digit_lt n r q v u p g in grind (arith, nat_tests)
      ]
    ]

pub cmp-same_digit : (d u v : ℕ) → nat_cmp (d + u) (d + v) ≡ nat_cmp u v
cmp-same_digit d u v = grind (arith, nat_tests)

-- where the quadrants differ, their order is that of the values
pub cmp-level : (level x y v w q r b d : ℕ) → 0 < level → q ≢ r
    → curve_value (suc (level - 1)) x y ≡ q * 2 ^ (level - 1) * 2 ^ (level - 1) + b
    → curve_value (suc (level - 1)) v w ≡ r * 2 ^ (level - 1) * 2 ^ (level - 1) + d
    → b < 2 ^ (level - 1) * 2 ^ (level - 1) → d < 2 ^ (level - 1) * 2 ^ (level - 1)
    → nat_cmp q r ≡ nat_cmp (curve_value level x y) (curve_value level v w)
cmp-level zero x y v w q r b d p ne e f h g = absurd (omega arith)
cmp-level (suc k) x y v w q r b d p ne e f h g =
    let i : suc k - 1 ≡ k = omega arith in
    let e' : curve_value (suc k) x y ≡ q * 2 ^ k * 2 ^ k + b = rw i at e in
    let f' : curve_value (suc k) v w ≡ r * 2 ^ k * 2 ^ k + d = rw i at f in
    let h' : b < 2 ^ k * 2 ^ k = rw i at h in
    let g' : d < 2 ^ k * 2 ^ k = rw i at g in
    let e'' : curve_value (suc k) x y ≡ q * (2 ^ k * 2 ^ k) + b = omega arith in
    let f'' : curve_value (suc k) v w ≡ r * (2 ^ k * 2 ^ k) + d = omega arith in
    rw (e'', f'') (cmp-digits (2 ^ k * 2 ^ k) q r b d ne h' g')
