-- The values of an aligned square are one stretch.
use Rattle.std.proofs.Common.{◌≡◌, ℕ, suc, ◌+◌, ◌-◌, ◌*◌, ◌/◌, ◌%◌, ◌^◌, ◌<◌, ◌≤◌, ◌↔◌, arith, ap, sym, ◌∙◌}
use Rattle.std.proofs.Math.Nat.{mul-le-mul_left}
use Rattle.std.proofs.lemmas.Nat.{pow-add, pow_pos, div-mul-add, div-add-mod', mod_below}
use Rattle.hilbert_key.specs.Curve.{curve_value}
use Rattle.hilbert_key.specs.laws.Bounds.{curve_value-lt, square_pos, last_place}
use Rattle.hilbert_key.specs.laws.Points.{curve_value-injective}
use Rattle.hilbert_key.specs.laws.Squares.{curve_value-coarse, cell-below}

-- a square ends within the whole
pub stretch_fits : (k j before : ℕ) → before < 2 ^ k * 2 ^ k → before * 2 ^ j * 2 ^ j + 2 ^ j * 2 ^ j ≤ 2 ^ (k + j) * 2 ^ (k + j)
stretch_fits k j b h =
    let e : 2 ^ (k + j) ≡ 2 ^ k * 2 ^ j = pow-add 2 k j in
    let t : 2 ^ j * 2 ^ j * suc b ≤ 2 ^ j * 2 ^ j * (2 ^ k * 2 ^ k) = mul-le-mul_left (2 ^ j * 2 ^ j) h in
    rw e (omega arith)

-- how many squares lie before one of them
pub before_below : (k j x y : ℕ) → x < 2 ^ (k + j) → y < 2 ^ (k + j) → curve_value (k + j) x y / (2 ^ j * 2 ^ j) < 2 ^ k * 2 ^ k
before_below k j x y a b =
    let e = curve_value-coarse j k x y a b in
    let l = curve_value-lt k (x / 2 ^ j) (y / 2 ^ j) (cell-below j k x a) (cell-below j k y b) in
    rw e l

pub stretch_is : (k j x y p q : ℕ) → x < 2 ^ (k + j) → y < 2 ^ (k + j) → p < 2 ^ (k + j) → q < 2 ^ (k + j)
    → (curve_value (k + j) p q / (2 ^ j * 2 ^ j) ≡ curve_value (k + j) x y / (2 ^ j * 2 ^ j))
    ↔ ((p / 2 ^ j ≡ x / 2 ^ j) × (q / 2 ^ j ≡ y / 2 ^ j))
stretch_is k j x y p q a b c d =
    let e = curve_value-coarse j k x y a b in
    let f = curve_value-coarse j k p q c d in (
      (λ h. two (curve_value-injective k (p / 2 ^ j) (q / 2 ^ j) (x / 2 ^ j) (y / 2 ^ j)
          (cell-below j k p c) (cell-below j k q d) (cell-below j k x a) (cell-below j k y b) (sym f ∙ h ∙ e))),
      (λ h. f ∙ same k _ _ _ _ h.0 h.1 ∙ sym e),
    )
  where
    two : {a b c d : ℕ} → ◌≡◌ {A = ℕ × ℕ} (a, b) (c, d) → (a ≡ c) × (b ≡ d)
    two e = (ap (λ w. w.0) e, ap (λ w. w.1) e)

    same : (k a b c d : ℕ) → a ≡ c → b ≡ d → curve_value k a b ≡ curve_value k c d
    same k a b c d e f = cc

-- a value lies in the stretch of a square where as many squares lie before it
pub within_stretch : (j before v : ℕ) → ((before * 2 ^ j * 2 ^ j ≤ v) × (v ≤ before * 2 ^ j * 2 ^ j + ((2 ^ j - 1) * 2 ^ j + (2 ^ j - 1)))) ↔ (v / (2 ^ j * 2 ^ j) ≡ before)
within_stretch j b v =
    let p = square_pos j in
    let l = last_place (2 ^ j) (pow_pos j) in
    let whole : v / (2 ^ j * 2 ^ j) * (2 ^ j * 2 ^ j) + v % (2 ^ j * 2 ^ j) ≡ v = div-add-mod' v (2 ^ j * 2 ^ j) in
    let rest : v % (2 ^ j * 2 ^ j) < 2 ^ j * 2 ^ j = mod_below v (2 ^ j * 2 ^ j) p in (
      (λ h. let from : b * 2 ^ j * 2 ^ j ≤ v = h.0 in
          let to : v ≤ b * 2 ^ j * 2 ^ j + ((2 ^ j - 1) * 2 ^ j + (2 ^ j - 1)) = h.1 in
          let back : b * (2 ^ j * 2 ^ j) + (v - b * 2 ^ j * 2 ^ j) ≡ v = omega arith in
          sym (ap (λ n. n / (2 ^ j * 2 ^ j)) back) ∙ div-mul-add b (2 ^ j * 2 ^ j) (v - b * 2 ^ j * 2 ^ j) (omega arith)),
      (λ e. let times : v / (2 ^ j * 2 ^ j) * (2 ^ j * 2 ^ j) ≡ b * (2 ^ j * 2 ^ j) = ap (λ n. n * (2 ^ j * 2 ^ j)) e in
          (omega arith, omega arith)),
    )
