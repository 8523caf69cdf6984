-- The image of a list of rows: its tree, as rows on pages.
use Rattle.std.specs.Prelude.{◌≡◌, ℕ, zero, suc, ◌+◌, ◌*◌, List, [], ◌++◌, length, take, drop, map, slice_get, All}
use Rattle.std.specs.Int.{to_be_bytes, w32}
use Rattle.std.specs.Option.{option_map_or}
use Rattle.page_codec.specs.Page.{most_rows, ShowsRows}
use Rattle.tree_shape.specs.declared.levels.Shape.{Shape}
use Rattle.tree_shape.specs.Shape.{level_size, level_start, span, IsPlace, children_at}
use Rattle.btree_image.specs.Rows.{Layout, IsStored, Ascends}

module _ {T K : Type 0} (l : Layout T K) where
  -- a tree of that many rows
  abbrev pub shape_of : ℕ → Shape
  shape_of rows = record { per_leaf = most_rows l.leaf; per_inner = most_rows l.inner; rows = rows }

  module _ (rows : List T) where
    -- the bytes of the key of the row at a place of the list
    abbrev pub key_bytes_at : ℕ → List ℕ
    key_bytes_at i = option_map_or (λ row. l.key_to_bytes (l.key_of row)) (slice_get rows i) []

    -- an inner row: the least key of a child, and its page
    abbrev pub child_row : (level child : ℕ) → List ℕ
    child_row level child =
        key_bytes_at (child * span (shape_of (length rows)) level) ++ to_be_bytes w32 (level_start (shape_of (length rows)) level + child)

    -- the rows, as bytes, of the page at a place of a level
    unfoldable pub level_rows : (level at : ℕ) → List (List ℕ)
    level_rows zero at = map l.to_bytes (take (most_rows l.leaf) (drop (at * most_rows l.leaf) rows))
    level_rows (suc level) at = map (child_row level) (children_at (level_size (shape_of (length rows)) level) (most_rows l.inner) at)

  -- the kind of the pages of a level
  abbrev pub level_kind : ℕ → ℕ
  level_kind zero = l.leaf
  level_kind (suc level) = l.inner

-- a list that a tree of that many rows can have
pub record IsList {T K : Type 0} (l : Layout T K) (rows : ℕ) (list : List T) : Type 0 where
  pub count : length list ≡ rows
  pub ascends : Ascends l list
  pub stored : All (IsStored l) list

-- the pages of a device show the image of a list, from a page on
abbrev pub ShowsTree : {T K : Type 0} → Layout T K → List T → (first : ℕ) → (ℕ → List ℕ) → Type 0
ShowsTree l list first contents = (level at : ℕ) → IsPlace (shape_of l (length list)) level at
    → ShowsRows (level_kind l level) level (level_rows l list level at) (contents (first + (level_start (shape_of l (length list)) level + at)))
