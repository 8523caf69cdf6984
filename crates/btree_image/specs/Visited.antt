-- The pages that a scan of closed ranges of keys asks for.
use Rattle.std.specs.Prelude.{ℕ, zero, suc, ◌+◌, ◌*◌, Bool, true, false, not, ◌&&◌, List, [], ◌∷◌, ◌++◌, map, filter, length, slice_get, Option, Some, None}
use Rattle.std.specs.List.{list_any}
use Rattle.std.specs.Ordering.{is_gt, is_lt}
use Rattle.tree_shape.specs.Shape.{span, level_size, numbers}
use Rattle.btree_image.specs.Rows.{Layout}
use Rattle.btree_image.specs.Image.{shape_of}
use Rattle.btree_image.specs.Pages.{page_number}

module _ {T K : Type 0} (l : Layout T K) where
  -- a range begins before a row, if there is one
  abbrev pub begins_before : K × K → Option T → Bool
  begins_before range None = true
  begins_before range (Some row) = is_lt (l.order range.0 (l.key_of row))

  -- and ends at a row or behind it
  abbrev pub reaches_row : K × K → Option T → Bool
  reaches_row range None = false
  reaches_row range (Some row) = not (is_gt (l.order (l.key_of row) range.1))

  module _ (list : List T) (ranges : List (K × K)) where
    -- the keys of a page meet a range: its span goes from its first row up to the first row of the next page of the level,
    -- which it doesn't hold, and that of the last page has no end
    abbrev pub is_met : (level at : ℕ) → Bool
    is_met level at =
        list_any (λ range. reaches_row range (slice_get list (at * span (shape_of l (length list)) level))
        && begins_before range (slice_get list ((at + 1) * span (shape_of l (length list)) level))) ranges

    -- the pages of a level that meet a range, by number
    abbrev pub met_at : (first level : ℕ) → List ℕ
    met_at first level =
        map (page_number l first (length list) level) (filter (is_met level) (numbers 0 (level_size (shape_of l (length list)) level)))

    -- and those of all levels below one, from the top
    unfoldable pub met_below : (first level : ℕ) → List ℕ
    met_below first zero = []
    met_below first (suc level) = met_at first level ++ met_below first level

    -- the pages that a scan asks for: the root, and then each page that meets a range, level by level, left to right
    abbrev pub visited_pages : (first root : ℕ) → List ℕ
    visited_pages first root = page_number l first (length list) root 0 ∷ met_below first root
