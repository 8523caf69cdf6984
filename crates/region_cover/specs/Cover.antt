-- The cover of a rectangle: the values along the curve of all points whose cell meets it, as ranges.
use Rattle.std.specs.Prelude.{◌≡◌, ℕ, ◌+◌, ◌*◌, ◌/◌, ◌^◌, ◌<◌, ◌≤◌, ◌↔◌, List, All, AllPairs, Any, IsTrue}
use Rattle.geo_base.specs.Corners.{Corners}
use Rattle.geo_base.specs.Inside.{encloses}
use Rattle.geo_base.specs.declared.points.Point.{Point}
use Rattle.hilbert_key.specs.Curve.{curve_value}
use Rattle.hilbert_key.specs.Cells.{cell_number}
use Rattle.hilbert_key.specs.declared.TheConstants.{ORDER, CELL_ORDER}
use Rattle.region_cover.specs.declared.ranges.Range.{Range}

-- the cell's square meets the rectangle: some point of the rectangle lies in the cell
abbrev pub CellMeets : Corners → ℕ → Type 0
CellMeets r cell = (p : Point) × IsTrue (encloses r p) × (cell_number p.x p.y ≡ cell)

-- the value of a point whose cell meets the rectangle
abbrev pub IsCovered : Corners → ℕ → Type 0
IsCovered r v =
    (p : Point) × (p.x < 2 ^ ORDER) × (p.y < 2 ^ ORDER) × (curve_value ORDER p.x p.y ≡ v) × CellMeets r (cell_number p.x p.y)

-- a value lies in one of the ranges
abbrev pub IsAmong : List Range → ℕ → Type 0
IsAmong ranges v = Any (λ range. (range.lo ≤ v) × (v ≤ range.hi)) ranges

-- a cell lies in one of the ranges, as the indexes that are kept by cell take them
abbrev pub IsCellAmong : List Range → ℕ → Type 0
IsCellAmong ranges cell =
    Any (λ range. (range.lo / (2 ^ CELL_ORDER * 2 ^ CELL_ORDER) ≤ cell) × (cell ≤ range.hi / (2 ^ CELL_ORDER * 2 ^ CELL_ORDER))) ranges

-- no range is empty, and at least one value is left out between a range and each later one
pub record AreRuns (ranges : List Range) : Type 0 where
  pub filled : All (λ range. range.lo ≤ range.hi) ranges
  pub apart : AllPairs (λ a b. a.hi + 1 < b.lo) ranges

-- the maximal runs of the covered values, ascending
pub record IsCover (r : Corners) (ranges : List Range) : Type 0 where
  pub runs : AreRuns ranges
  pub exactly : (v : ℕ) → IsCovered r v ↔ IsAmong ranges v
