-- The pages of a tree: their bytes as they are written, and their numbers.
use Rattle.std.specs.Prelude.{ℕ, ◌+◌, List}
use Rattle.page_codec.specs.Written.{page_of}
use Rattle.tree_shape.specs.Shape.{level_start}
use Rattle.btree_image.specs.Rows.{Layout}
use Rattle.btree_image.specs.Image.{shape_of, level_rows, level_kind}

-- the page at a place of a level, as it is written
abbrev pub level_page : {T K : Type 0} → Layout T K → List T → (level at : ℕ) → List ℕ
level_page l rows level at = page_of (level_kind l level) level (level_rows l rows level at)

-- the number of a page of a tree on its device
abbrev pub page_number : {T K : Type 0} → Layout T K → (first rows level at : ℕ) → ℕ
page_number l first rows level at = first + (level_start (shape_of l rows) level + at)
