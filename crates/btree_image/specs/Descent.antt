-- The way from the root to the leaf in which a key has its place: in each inner page to the last child whose key is at most
-- that key, or to the first child.
use Rattle.std.specs.Prelude.{ℕ, zero, suc, ◌-◌, ◌/◌, not, List, [], ◌∷◌, length}
use Rattle.std.specs.List.{prefix_len}
use Rattle.std.specs.Ordering.{is_gt}
use Rattle.tree_shape.specs.Shape.{span}
use Rattle.btree_image.specs.Rows.{Layout}
use Rattle.btree_image.specs.Image.{shape_of}
use Rattle.btree_image.specs.Pages.{page_number}

-- how many rows have a key that is at most that key
abbrev pub rank : {T K : Type 0} → Layout T K → List T → K → ℕ
rank l rows key = prefix_len (λ row. not (is_gt (l.order (l.key_of row) key))) rows

-- the page of a level that has the last of these rows below it, or the first page
abbrev pub place_of_key : {T K : Type 0} → Layout T K → List T → K → ℕ → ℕ
place_of_key l rows key level = (rank l rows key - 1) / span (shape_of l (length rows)) level

-- the pages of a descent, from a level down to a leaf
unfoldable pub descent : {T K : Type 0} → Layout T K → (first : ℕ) → List T → K → (level : ℕ) → List ℕ
descent l first rows key zero = page_number l first (length rows) 0 (place_of_key l rows key 0) ∷ []
descent l first rows key (suc level) =
    page_number l first (length rows) (suc level) (place_of_key l rows key (suc level)) ∷ descent l first rows key level
