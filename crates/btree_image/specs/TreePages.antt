-- All pages of a tree, by its count of rows alone: from the root's level down to the leaves, each level from left to right.
use Rattle.std.specs.Prelude.{ℕ, zero, suc, List, ◌++◌, map}
use Rattle.tree_shape.specs.Shape.{level_size, numbers}
use Rattle.btree_image.specs.Rows.{Layout}
use Rattle.btree_image.specs.Image.{shape_of}
use Rattle.btree_image.specs.Pages.{page_number}

module _ {T K : Type 0} (l : Layout T K) (first rows : ℕ) where
  -- the pages of a level, by number
  abbrev pub level_pages : (level : ℕ) → List ℕ
  level_pages level = map (page_number l first rows level) (numbers 0 (level_size (shape_of l rows) level))

  -- and those of all levels from one down
  unfoldable pub tree_pages : (level : ℕ) → List ℕ
  tree_pages zero = level_pages zero
  tree_pages (suc level) = level_pages (suc level) ++ tree_pages level
