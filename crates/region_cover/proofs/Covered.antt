-- From the values of the cells that a rectangle meets to its cover.
use Rattle.std.proofs.Common.{◌≡◌, ℕ, ◌*◌, ◌/◌, ◌<◌, ◌≤◌, ◌↔◌, inl, inr, List, [], arith, ap, ◌∙◌, subst, refl}
use Rattle.std.specs.List.{All}
use Rattle.std.proofs.lemmas.Bool.{cases_lt}
use Rattle.geo_base.specs.Corners.{Corners}
use Rattle.hilbert_key.specs.Curve.{curve_value}
use Rattle.hilbert_key.specs.Cells.{cell_number}
use Rattle.region_cover.specs.Cover.{CellMeets, IsCovered, IsAmong, IsCellAmong}
use Rattle.region_cover.specs.Steps.{Has, IsPart, HasValue, Adds}
use Rattle.region_cover.specs.declared.ranges.Range.{Range}
use Rattle.region_cover.proofs.Meeting.{inside_parts}
use Rattle.region_cover.specs.declared.parts.Part.{Part}

none_among : (v : ℕ) → IsAmong [] v → ⊥
none_among v h = absurd (omega (arith, h.2))

-- the values of the part are those that are covered
pub covered : (r : Corners) (part : Part) (ranges : List Range) → IsPart 65536 part
    → ((x y : ℕ) → x < 65536 → y < 65536 → Has part (x, y) ↔ CellMeets r (cell_number x y))
    → Adds (HasValue 16 0 part) [] ranges → (v : ℕ) → IsCovered r v ↔ IsAmong ranges v
covered r part ranges part_in met adds v = (to, from)
  where
    to : IsCovered r v → IsAmong ranges v
    to h = (adds v).1 (inr ((h.0.x, h.0.y), (met h.0.x h.0.y h.1 h.2).1 h.4, omega (arith, h.3)))

    from : IsAmong ranges v → IsCovered r v
    from h = elim ((adds v).0 h) [
      | inl a ↦ absurd (none_among v a)
      | inr b ↦
          let x_in : b.0.0 < 65536 = omega (arith, b.1.0.1, part_in.0.1) in
          let y_in : b.0.1 < 65536 = omega (arith, b.1.1.1, part_in.1.1) in
          (record { x = b.0.0; y = b.0.1 }, x_in, y_in, omega (arith, b.2), (met b.0.0 b.0.1 x_in y_in).0 b.1)
    ]

-- and the cells of the ranges are those that meet the rectangle
pub cells_covered : (r : Corners) (ranges : List Range) → (r.x2 < 65536) × (r.y2 < 65536) → All (λ range. range.lo ≤ range.hi) ranges
    → ((v : ℕ) → IsCovered r v ↔ IsAmong ranges v) → (cell : ℕ) → CellMeets r cell ↔ IsCellAmong ranges cell
cells_covered r ranges bound filled is cell = (to, from)
  where
    to : CellMeets r cell → IsCellAmong ranges cell
    to h =
        let inside = inside_parts r h.0 h.1 in
        let x_in : h.0.x < 65536 = omega (arith, inside.1) in
        let y_in : h.0.y < 65536 = omega (arith, inside.3) in
        let a = (is (curve_value 16 h.0.x h.0.y)).0 (h.0, x_in, y_in, refl, (h.0, h.1, refl)) in
        let c : curve_value 16 h.0.x h.0.y / 65536 ≡ cell = h.2 in
        (a.0, a.1, a.2, a.3, (omega (arith, a.4.0, c), omega (arith, a.4.1, c)))

    at : (v : ℕ) → v / 65536 ≡ cell → IsAmong ranges v → CellMeets r cell
    at v e h =
        let p = (is v).1 h in
        let c : cell_number p.0.x p.0.y ≡ cell = ap (λ n. n / 65536) p.3 ∙ e in
        subst (CellMeets r) c p.4

    from : IsCellAmong ranges cell → CellMeets r cell
    from h =
        let up : h.1.lo ≤ h.1.hi = subst (λ (range : Range). range.lo ≤ range.hi) h.3 (filled h.0 h.1 h.2) in
        elim (cases_lt h.1.lo (cell * 65536)) [
          | inl p ↦ at (cell * 65536) (omega arith) (h.0, h.1, h.2, h.3, (omega arith, omega (arith, h.4.1)))
          | inr p ↦ at h.1.lo (omega (arith, h.4.0)) (h.0, h.1, h.2, h.3, (omega arith, up))
        ]
