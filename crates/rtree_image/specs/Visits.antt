-- Which rows a search gives, and which pages it asks for.
use Rattle.std.specs.Prelude.{ℕ, zero, suc, Bool, nat_lt, if◌then◌else◌, List, [], ◌∷◌, ◌++◌, map}
use Rattle.std.specs.List.{filter}
use Rattle.geo_base.specs.Corners.{Corners}
use Rattle.geo_base.specs.Inside.{encloses}
use Rattle.tree_shape.specs.declared.levels.Shape.{Shape}
use Rattle.tree_shape.specs.Shape.{level_size, numbers}
use Rattle.rtree_image.specs.declared.rows.RtRow.{RtRow}
use Rattle.rtree_image.specs.Bounds.{bounding, meets}
use Rattle.rtree_image.specs.Image.{rows_below, page_number}

abbrev pub is_inside : Corners → RtRow → Bool
is_inside rect row = encloses rect row.point

-- the rows of a list that lie in a rectangle, in its order
abbrev pub rows_inside : Corners → List RtRow → List RtRow
rows_inside rect rows = filter (is_inside rect) rows

module _ (s : Shape) (rows : List RtRow) (rect : Corners) where
  -- the bounds of a page's points meet the rectangle
  abbrev pub is_met : (level at : ℕ) → Bool
  is_met level at = meets (bounding (rows_below s rows level at)) rect

  -- the pages of a level that a search reads: the root, and below it those that are met
  abbrev pub visited_at : (root level : ℕ) → List ℕ
  visited_at root level = if nat_lt level root then filter (is_met level) (numbers 0 (level_size s level)) else 0 ∷ []

  -- from a level down to the leaves, by their numbers on a device
  unfoldable pub visited_from : (first root level : ℕ) → List ℕ
  visited_from first root zero = map (page_number s first 0) (visited_at root 0)
  visited_from first root (suc level) = map (page_number s first (suc level)) (visited_at root (suc level)) ++ visited_from first root level

  -- all pages of a search, level by level from the root
  abbrev pub visited_pages : (first root : ℕ) → List ℕ
  visited_pages first root = visited_from first root root
