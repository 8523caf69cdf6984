-- The curve through aligned squares: the curve of a coarser grid.
-- No public contract needs this file.
use Rattle.std.proofs.Common.{◌≡◌, ℕ, zero, suc, ◌+◌, ◌-◌, ◌*◌, ◌/◌, ◌%◌, ◌^◌, ◌<◌, ◌≤◌, arith, refl, sym, ◌∙◌, ap, subst, inl, inr}
use Rattle.std.proofs.Math.Nat.{pow-succ', div-lt_iff_lt-mul, mul-le-mul_left, div-eq_of_lt}
use Rattle.std.proofs.lemmas.Nat.{pow-add, pow_pos, div-mul-add, div-add-mod'}
use Rattle.std.proofs.lemmas.Bool.{cases_lt}
use Rattle.hilbert_key.specs.Curve.{curve_value}
use Rattle.hilbert_key.specs.laws.Quadrants.{lower_left, upper_left, upper_right, lower_right, curve_value-zero}
use Rattle.hilbert_key.specs.laws.Bounds.{curve_value-lt}

module _ (j : ℕ) where
  abbrev pub cell : ℕ → ℕ
  cell x = x / 2 ^ j

  abbrev pub size : ℕ
  size = 2 ^ j * 2 ^ j

  -- half a square of cells, in points
  half_is : (k : ℕ) → 2 ^ (k + j) ≡ 2 ^ k * 2 ^ j
  half_is k = pow-add 2 k j

  pub cell-below : (k x : ℕ) → x < 2 ^ (k + j) → cell x < 2 ^ k
  cell-below k x h = (div-lt_iff_lt-mul {k = 2 ^ j} {x = x} {y = 2 ^ k} (pow_pos j)).1 (subst (λ n. x < n) (half_is k) h)

  cell-from : (k x : ℕ) → 2 ^ (k + j) ≤ x → 2 ^ k ≤ cell x
  cell-from k x h = elim (cases_lt (cell x) (2 ^ k)) [
    | inr le ↦ le
    | inl lt ↦ absurd (
        let below : x < 2 ^ k * 2 ^ j = (div-lt_iff_lt-mul {k = 2 ^ j} {x = x} {y = 2 ^ k} (pow_pos j)).0 lt in
        let e = half_is k in omega arith)
  ]

  -- a point's cell in the right half, and in the half turned round
  cell-sub : (k x : ℕ) → 2 ^ (k + j) ≤ x → cell (x - 2 ^ (k + j)) ≡ cell x - 2 ^ k
  cell-sub k x h =
      let e = half_is k in
      let low = cell-from k x h in
      let whole : cell x * 2 ^ j + x % 2 ^ j ≡ x = div-mod x in
      let split : cell x ≡ (cell x - 2 ^ k) + 2 ^ k = omega arith in
      let times : cell x * 2 ^ j ≡ ((cell x - 2 ^ k) + 2 ^ k) * 2 ^ j = ap (λ n. n * 2 ^ j) split in
      let back : (cell x - 2 ^ k) * 2 ^ j + x % 2 ^ j ≡ x - 2 ^ (k + j) = omega arith in
      rw (← back) (div-mul-add (cell x - 2 ^ k) (2 ^ j) (x % 2 ^ j) (rest-below x))
    where
      div-mod : (x : ℕ) → x / 2 ^ j * 2 ^ j + x % 2 ^ j ≡ x
      div-mod x = div-add-mod' x (2 ^ j)

      rest-below : (x : ℕ) → x % 2 ^ j < 2 ^ j
      rest-below x = let p = pow_pos j in omega arith

  -- the cell of a point counted from the far edge
  cell-turned : (k x : ℕ) → x < 2 ^ (k + j) → cell (2 ^ (k + j) - 1 - x) ≡ 2 ^ k - 1 - cell x
  cell-turned k x h =
      let e = half_is k in
      let low = cell-below k x h in
      let p = pow_pos j in
      let whole : cell x * 2 ^ j + x % 2 ^ j ≡ x = div-add-mod' x (2 ^ j) in
      let split : 2 ^ k ≡ (2 ^ k - 1 - cell x) + suc (cell x) = omega arith in
      let times : 2 ^ k * 2 ^ j ≡ ((2 ^ k - 1 - cell x) + suc (cell x)) * 2 ^ j = ap (λ n. n * 2 ^ j) split in
      let below : x % 2 ^ j < 2 ^ j = omega arith in
      let back : (2 ^ k - 1 - cell x) * 2 ^ j + (2 ^ j - 1 - x % 2 ^ j) ≡ 2 ^ (k + j) - 1 - x = omega arith in
      rw (← back) (div-mul-add (2 ^ k - 1 - cell x) (2 ^ j) (2 ^ j - 1 - x % 2 ^ j) (omega arith))

  -- a quotient by the points of a cell
  quotient : (q n v : ℕ) → (q * (n * 2 ^ j) * (n * 2 ^ j) + v) / size ≡ q * n * n + v / size
  quotient q n v =
      let p = pow_pos j in
      let some : 0 < size = mul-pos (2 ^ j) (2 ^ j) p p in
      let whole : v / size * size + v % size ≡ v = div-add-mod' v size in
      let all : (q * n * n + v / size) * size + v % size ≡ q * (n * 2 ^ j) * (n * 2 ^ j) + v = omega arith in
      rw (← all) (div-mul-add (q * n * n + v / size) size (v % size) (let s = some in omega arith))
    where
      mul-pos : (m n : ℕ) → 0 < m → 0 < n → 0 < m * n
      mul-pos m n a b = let t : m * 1 ≤ m * n = mul-le-mul_left m b in omega arith

  quotient_at : (k q v : ℕ) → (q * 2 ^ (k + j) * 2 ^ (k + j) + v) / size ≡ q * 2 ^ k * 2 ^ k + v / size
  quotient_at k q v = rw (half_is k) (quotient q (2 ^ k) v)

  twice_is : (k : ℕ) → 2 ^ (suc k + j) ≡ 2 * 2 ^ (k + j)
  twice_is k = let s : suc k + j ≡ suc (k + j) = omega arith in rw s (pow-succ' 2 (k + j))

  both : (k m n v w : ℕ) → m ≡ v → n ≡ w → curve_value k m n ≡ curve_value k v w
  both k m n v w e f = rw (e, f) refl

  turned_far : (k x : ℕ) → x < 2 ^ (suc k + j) → cell (2 * 2 ^ (k + j) - 1 - x) ≡ 2 * 2 ^ k - 1 - cell x
  turned_far k x h = rw (← twice_is k, ← pow-succ' 2 k) (cell-turned (suc k) x h)

  -- a point's value, by cells, is the value of its cell on the coarser curve
  pub curve_value-coarse : (k x y : ℕ) → x < 2 ^ (k + j) → y < 2 ^ (k + j) → curve_value (k + j) x y / size ≡ curve_value k (cell x) (cell y)
  curve_value-coarse zero x y a b =
      let z : 0 + j ≡ j = omega arith in
      let below : curve_value j x y < size = curve_value-lt j x y (subst (λ n. x < 2 ^ n) z a) (subst (λ n. y < 2 ^ n) z b) in
      rw z (div-eq_of_lt below ∙ sym (curve_value-zero (cell x) (cell y)))
  curve_value-coarse (suc k) x y a b =
      let h : ℕ = 2 ^ (k + j) in
      let s : suc k + j ≡ suc (k + j) = omega arith in
      let e = twice_is k in
      let e' : 2 ^ suc k ≡ 2 * 2 ^ k = pow-succ' 2 k in
      let x_in : x < 2 * h = omega arith in
      let y_in : y < 2 * h = omega arith in
      rw s (elim (cases_lt x h) [
        | inl p ↦ elim (cases_lt y h) [
          | inl q ↦ ap (λ n. n / size) (lower_left (k + j) h x y refl p q) ∙ (quotient_at k 0 _
              ∙ (ap (λ n. 0 * 2 ^ k * 2 ^ k + n) (curve_value-coarse k y x q p)
              ∙ sym (lower_left k (2 ^ k) (cell x) (cell y) refl (cell-below k x p) (cell-below k y q))))
          | inr q ↦ ap (λ n. n / size) (upper_left (k + j) h x y refl p q) ∙ (quotient_at k 1 _
              ∙ (ap (λ n. 1 * 2 ^ k * 2 ^ k + n) (curve_value-coarse k x (y - h) p (omega arith) ∙ ap (curve_value k (cell x)) (cell-sub k y q))
              ∙ sym (upper_left k (2 ^ k) (cell x) (cell y) refl (cell-below k x p) (cell-from k y q))))
        ]
        | inr p ↦ elim (cases_lt y h) [
          | inl q ↦ ap (λ n. n / size) (lower_right (k + j) h x y refl p q) ∙ (quotient_at k 3 _
              ∙ (ap (λ n. 3 * 2 ^ k * 2 ^ k + n) (curve_value-coarse k (h - 1 - y) (2 * h - 1 - x) (omega arith) (omega arith)
              ∙ both k _ _ _ _ (cell-turned k y q) (turned_far k x a))
              ∙ sym (lower_right k (2 ^ k) (cell x) (cell y) refl (cell-from k x p) (cell-below k y q))))
          | inr q ↦ ap (λ n. n / size) (upper_right (k + j) h x y refl p q) ∙ (quotient_at k 2 _
              ∙ (ap (λ n. 2 * 2 ^ k * 2 ^ k + n) (curve_value-coarse k (x - h) (y - h) (omega arith) (omega arith)
              ∙ both k _ _ _ _ (cell-sub k x p) (cell-sub k y q))
              ∙ sym (upper_right k (2 ^ k) (cell x) (cell y) refl (cell-from k x p) (cell-from k y q))))
        ]
      ])
