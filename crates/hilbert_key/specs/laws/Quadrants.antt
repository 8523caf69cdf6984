-- The four quadrants of a square, down to a point's place in its quadrant and back up.
-- No public contract needs this file.
use Rattle.std.proofs.Common.{◌≡◌, ℕ, zero, suc, ◌+◌, ◌-◌, ◌*◌, ◌^◌, ◌<◌, ◌≤◌, arith, refl, ap, inl, inr}
use Rattle.std.proofs.Math.Pow.{pow_mono}
use Rattle.std.proofs.Math.Nat.{pow-succ'}
use Rattle.std.proofs.lemmas.Bool.{cases_lt}
use Rattle.std.proofs.lemmas.Bool.Decides.{nat_tests}
use Rattle.hilbert_key.specs.Curve.{curve_value}

-- the four cases of the curve, for a square of side 2 * half

pub lower_left : (k half x y : ℕ) → half ≡ 2 ^ k → x < half → y < half → curve_value (suc k) x y ≡ 0 * half * half + curve_value k y x
unfolding curve_value
lower_left k half x y e p q = grind (arith, nat_tests)

pub upper_left : (k half x y : ℕ) → half ≡ 2 ^ k → x < half → half ≤ y → curve_value (suc k) x y ≡ 1 * half * half + curve_value k x (y - half)
unfolding curve_value
upper_left k half x y e p q = grind (arith, nat_tests)

pub upper_right : (k half x y : ℕ) → half ≡ 2 ^ k → half ≤ x → half ≤ y → curve_value (suc k) x y ≡ 2 * half * half + curve_value k (x - half) (y - half)
unfolding curve_value
upper_right k half x y e p q = grind (arith, nat_tests)

pub lower_right : (k half x y : ℕ) → half ≡ 2 ^ k → half ≤ x → y < half → curve_value (suc k) x y ≡ 3 * half * half + curve_value k (half - 1 - y) (2 * half - 1 - x)
unfolding curve_value
lower_right k half x y e p q = grind (arith, nat_tests)

pub curve_value-zero : (x y : ℕ) → curve_value 0 x y ≡ 0
unfolding curve_value
curve_value-zero x y = refl

-- the same, from the place in the quadrant
pub raised_0 : (k half x y : ℕ) → half ≡ 2 ^ k → x < half → y < half → curve_value (suc k) y x ≡ 0 * half * half + curve_value k x y
raised_0 k half x y e p q = lower_left k half y x e q p

pub raised_1 : (k half x y : ℕ) → half ≡ 2 ^ k → x < half → y < half → curve_value (suc k) x (y + half) ≡ 1 * half * half + curve_value k x y
raised_1 k half x y e p q =
    let i : y + half - half ≡ y = omega arith in
    rw i at (upper_left k half x (y + half) e p (omega arith))

pub raised_2 : (k half x y : ℕ) → half ≡ 2 ^ k → x < half → y < half → curve_value (suc k) (x + half) (y + half) ≡ 2 * half * half + curve_value k x y
raised_2 k half x y e p q =
    let i : y + half - half ≡ y = omega arith in
    let j : x + half - half ≡ x = omega arith in
    rw (i, j) at (upper_right k half (x + half) (y + half) e (omega arith) (omega arith))

pub raised_3 : (k half x y : ℕ) → half ≡ 2 ^ k → x < half → y < half → curve_value (suc k) (2 * half - 1 - y) (half - 1 - x) ≡ 3 * half * half + curve_value k x y
raised_3 k half x y e p q =
    let i : half - 1 - (half - 1 - x) ≡ x = omega arith in
    let j : 2 * half - 1 - (2 * half - 1 - y) ≡ y = omega arith in
    rw (i, j) at (lower_right k half (2 * half - 1 - y) (half - 1 - x) e (omega arith) (omega arith))

-- the side of a square and twice it fit 32 bits
pub side_fits : (k : ℕ) → k < 16 → 2 ^ k ≤ 2 ^ 15
side_fits k p = let q : k ≤ 15 = omega arith in pow_mono q

-- a point of a quadrant, back in the square of side 2 * half
abbrev pub raised : (half quadrant x y : ℕ) → ℕ × ℕ
raised half zero x y = (y, x)
raised half (suc zero) x y = (x, y + half)
raised half (suc (suc zero)) x y = (x + half, y + half)
raised half (suc (suc (suc q))) x y = (2 * half - 1 - y, half - 1 - x)

-- where a point of the larger square lies in its quadrant
pub record Lies (k x y : ℕ) : Type 0 where
  pub quadrant : ℕ
  pub x_there : ℕ
  pub y_there : ℕ
  pub quadrant_below : quadrant < 4
  pub x_below : x_there < 2 ^ k
  pub y_below : y_there < 2 ^ k
  pub value : curve_value (suc k) x y ≡ quadrant * 2 ^ k * 2 ^ k + curve_value k x_there y_there
  pub point : raised (2 ^ k) quadrant x_there y_there ≡ (x, y)

pub lies : (k x y : ℕ) → x < 2 ^ suc k → y < 2 ^ suc k → Lies k x y
lies k x y p q =
    let e : 2 ^ suc k ≡ 2 * 2 ^ k = pow-succ' 2 k in
    elim (cases_lt x (2 ^ k)) [
      | inl a ↦ elim (cases_lt y (2 ^ k)) [
        | inl b ↦ record {
          quadrant = 0;
          x_there = y;
          y_there = x;
          quadrant_below = omega arith;
          x_below = b;
          y_below = a;
          value = lower_left k (2 ^ k) x y refl a b;
          point = refl;
        }
        | inr b ↦ record {
          quadrant = 1;
          x_there = x;
          y_there = y - 2 ^ k;
          quadrant_below = omega arith;
          x_below = a;
          y_below = omega arith;
          value = upper_left k (2 ^ k) x y refl a b;
          point = ap (λ w. (x, w)) (omega arith);
        }
      ]
      | inr a ↦ elim (cases_lt y (2 ^ k)) [
        | inl b ↦ record {
          quadrant = 3;
          x_there = 2 ^ k - 1 - y;
          y_there = 2 * 2 ^ k - 1 - x;
          quadrant_below = omega arith;
          x_below = omega arith;
          y_below = omega arith;
          value = lower_right k (2 ^ k) x y refl a b;
          point = two-eq _ _ _ _ (omega arith) (omega arith);
        }
        | inr b ↦ record {
          quadrant = 2;
          x_there = x - 2 ^ k;
          y_there = y - 2 ^ k;
          quadrant_below = omega arith;
          x_below = omega arith;
          y_below = omega arith;
          value = upper_right k (2 ^ k) x y refl a b;
          point = two-eq _ _ _ _ (omega arith) (omega arith);
        }
      ]
    ]
  where
    two-eq : (a b c d : ℕ) → a ≡ c → b ≡ d → ◌≡◌ {A = ℕ × ℕ} (a, b) (c, d)
    two-eq a b c d e f = cc

pub raised-below : (k q u w : ℕ) → u < 2 ^ k → w < 2 ^ k
    → ((raised (2 ^ k) q u w).0 < 2 ^ suc k) × ((raised (2 ^ k) q u w).1 < 2 ^ suc k)
raised-below k zero u w a b = let e : 2 ^ suc k ≡ 2 * 2 ^ k = pow-succ' 2 k in (omega arith, omega arith)
raised-below k (suc zero) u w a b = let e : 2 ^ suc k ≡ 2 * 2 ^ k = pow-succ' 2 k in (omega arith, omega arith)
raised-below k (suc (suc zero)) u w a b = let e : 2 ^ suc k ≡ 2 * 2 ^ k = pow-succ' 2 k in (omega arith, omega arith)
raised-below k (suc (suc (suc q))) u w a b = let e : 2 ^ suc k ≡ 2 * 2 ^ k = pow-succ' 2 k in (omega arith, omega arith)

pub curve_value-raised : (k q u w : ℕ) → q < 4 → u < 2 ^ k → w < 2 ^ k
    → curve_value (suc k) (raised (2 ^ k) q u w).0 (raised (2 ^ k) q u w).1 ≡ q * 2 ^ k * 2 ^ k + curve_value k u w
curve_value-raised k zero u w h a b = raised_0 k (2 ^ k) u w refl a b
curve_value-raised k (suc zero) u w h a b = raised_1 k (2 ^ k) u w refl a b
curve_value-raised k (suc (suc zero)) u w h a b = raised_2 k (2 ^ k) u w refl a b
curve_value-raised k (suc (suc (suc zero))) u w h a b = raised_3 k (2 ^ k) u w refl a b
curve_value-raised k (suc (suc (suc (suc q)))) u w h a b = absurd (omega arith)
