-- The plain table that the store is compared with: a finite map from keys to a point and a note.
use Rattle.std.specs.Prelude.{ℕ, List, map, filter}
use Rattle.std.specs.Ordering.{nat_cmp}
use Rattle.std.specs.FinMap.{FinMap, entries}
use Rattle.geo_base.specs.Corners.{Corners}
use Rattle.geo_base.specs.Inside.{encloses}
use Rattle.geo_base.specs.declared.points.Point.{Point}
use Rattle.geo_base.specs.declared.points.Row.{Row}

-- what the table has at a key
pub record Place : Type 0 where
  pub point : Point
  pub note : List ℕ

abbrev pub Table : Type 0
Table = FinMap nat_cmp Place

abbrev pub place_of : Row → Place
place_of row = record { point = row.point; note = row.note }

abbrev pub row_at : ℕ × Place → Row
row_at e = record { key = e.0; point = e.1.point; note = e.1.note }

-- the rows of the table, ascending by key
abbrev pub rows_of : Table → List Row
rows_of t = map row_at (entries t)

-- those of the rows that are inside a rectangle
abbrev pub rows_inside : Corners → List Row → List Row
rows_inside r rows = filter (λ row. encloses r row.point) rows
