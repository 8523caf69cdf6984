-- The image of a list of rows: its tree, as rows on pages.
use Rattle.std.specs.Prelude.{◌≡◌, ℕ, zero, suc, ◌+◌, ◌*◌, List, ◌++◌, length, take, drop, map, All, Bool, IsTrue, Option, Some}
use Rattle.std.specs.Int.{to_be_bytes, w32}
use Rattle.page_codec.specs.declared.kinds.TheConstants.{RTREE_LEAF, RTREE_INNER}
use Rattle.page_codec.specs.Page.{most_rows, ShowsRows}
use Rattle.page_codec.specs.Written.{page_of}
use Rattle.tree_shape.specs.declared.levels.Shape.{Shape}
use Rattle.tree_shape.specs.Shape.{level_size, level_start, span, IsPlace, children_at}
use Rattle.rtree_image.specs.declared.rows.RtRow.{RtRow}
use Rattle.rtree_image.specs.Rows.{row_bytes, IsStored}
use Rattle.rtree_image.specs.Bounds.{bounding, bounds_bytes}

-- a tree of that many rows
abbrev pub tree_of : ℕ → Shape
tree_of rows = record { per_leaf = most_rows RTREE_LEAF; per_inner = most_rows RTREE_INNER; rows = rows }

-- the rows of a list that stand below a page; below a leaf its own
abbrev pub rows_below : Shape → List RtRow → (level at : ℕ) → List RtRow
rows_below s rows level at = take (span s level) (drop (at * span s level) rows)

-- a row above the leaves: the bounds of a child's points, and its page
abbrev pub child_row : Shape → List RtRow → (level child : ℕ) → List ℕ
child_row s rows level child = bounds_bytes (bounding (rows_below s rows level child)) ++ to_be_bytes w32 (level_start s level + child)

-- the rows, as bytes, of the page at a place of a level
unfoldable pub level_rows : Shape → List RtRow → (level at : ℕ) → List (List ℕ)
level_rows s rows zero at = map row_bytes (rows_below s rows 0 at)
level_rows s rows (suc level) at = map (child_row s rows level) (children_at (level_size s level) s.per_inner at)

-- the kind of the pages of a level
abbrev pub level_kind : ℕ → ℕ
level_kind zero = RTREE_LEAF
level_kind (suc level) = RTREE_INNER

-- the page at a place of a level, as it is written
abbrev pub level_page : List RtRow → (level at : ℕ) → List ℕ
level_page rows level at = page_of (level_kind level) level (level_rows (tree_of (length rows)) rows level at)

-- the number of a page of a tree on its device
abbrev pub page_number : Shape → (first level at : ℕ) → ℕ
page_number s first level at = first + (level_start s level + at)

-- each page of a tree is lent
abbrev pub AreLent : (ℕ → Bool) → (first rows : ℕ) → Type 0
AreLent lent first rows = (level at : ℕ) → IsPlace (tree_of rows) level at → IsTrue (lent (page_number (tree_of rows) first level at))

-- the pages of a device show the image of a list, from a page on
abbrev pub ShowsTree : List RtRow → (first : ℕ) → (ℕ → List ℕ) → Type 0
ShowsTree list first contents = (level at : ℕ) → IsPlace (tree_of (length list)) level at
    → ShowsRows (level_kind level) level (level_rows (tree_of (length list)) list level at) (contents (page_number (tree_of (length list)) first level at))

-- the pages that are lent tell their bytes, and these show the image of a list
pub record IsShown (contents : Option (ℕ → List ℕ)) (first rows : ℕ) (list : List RtRow) : Type 0 where
  pub bytes : ℕ → List ℕ
  pub told : contents ≡ Some bytes
  pub count : length list ≡ rows
  pub stored : All IsStored list
  pub shows : ShowsTree list first bytes
