-- The rectangle round some points, its bytes (x1 2, y1 2, x2 2, y2 2), and where it meets another one.
use Rattle.std.specs.Prelude.{ℕ, Bool, nat_le, ◌&&◌, min, max, List, [], ◌∷◌, ◌++◌, take, drop}
use Rattle.std.specs.Int.{to_be_bytes, from_be_bytes, w16}
use Rattle.geo_base.specs.Corners.{Corners}
use Rattle.geo_base.specs.declared.limits.TheConstants.{MOST_COORDINATE}
use Rattle.geo_base.specs.declared.points.Point.{Point}
use Rattle.rtree_image.specs.declared.rows.RtRow.{RtRow}
use Rattle.rtree_image.specs.declared.bounds.Bounds.{Bounds}

-- the bounds of one point more
abbrev pub widened : Bounds → Point → Bounds
widened b p = record { x1 = min b.x1 p.x; y1 = min b.y1 p.y; x2 = max b.x2 p.x; y2 = max b.y2 p.y }

-- the least x, the least y, the greatest x and the greatest y of the points of a list
unfoldable pub bounding : List RtRow → Bounds
bounding [] = record { x1 = MOST_COORDINATE; y1 = MOST_COORDINATE; x2 = 0; y2 = 0 }
bounding (row ∷ rows) = widened (bounding rows) row.point

-- they and a rectangle have a point in common
abbrev pub meets : Bounds → Corners → Bool
meets b r = nat_le b.x1 r.x2 && nat_le r.x1 b.x2 && nat_le b.y1 r.y2 && nat_le r.y1 b.y2

abbrev pub bounds_bytes : Bounds → List ℕ
bounds_bytes b = to_be_bytes w16 b.x1 ++ (to_be_bytes w16 b.y1 ++ (to_be_bytes w16 b.x2 ++ to_be_bytes w16 b.y2))

abbrev pub bounds_in : List ℕ → Bounds
bounds_in bytes = record {
  x1 = from_be_bytes w16 (take 2 bytes);
  y1 = from_be_bytes w16 (take 2 (drop 2 bytes));
  x2 = from_be_bytes w16 (take 2 (drop 4 bytes));
  y2 = from_be_bytes w16 (take 2 (drop 6 bytes));
}
