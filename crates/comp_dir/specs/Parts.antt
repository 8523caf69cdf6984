-- The parts of a component in its extent, and how many pages each takes.
use Rattle.std.specs.Prelude.{◌≡◌, ◌≢◌, ◌⊎◌, ℕ, ◌+◌, ◌≤◌, slice_index}
use Rattle.std.specs.Int.{div_ceil}
use Rattle.page_codec.specs.Page.{most_rows}
use Rattle.page_codec.specs.declared.kinds.TheConstants.{DELETED_LEAF, DELETED_INNER, POSTINGS}
use Rattle.tree_shape.specs.Shape.{IsRoot, level_start}
use Rattle.tree_shape.specs.declared.levels.Shape.{Shape}
use Rattle.comp_dir.specs.declared.places.TheConstants.{MAIN_LEAVES, MAIN_INNERS, RTREE, INVERTED_FILE}
use Rattle.comp_dir.specs.declared.slots.Slot.{Slot}

-- a tree on full pages of these kinds
abbrev pub tree : (leaf inner rows : ℕ) → Shape
tree leaf inner rows = record { per_leaf = most_rows leaf; per_inner = most_rows inner; rows = rows }

-- the tree has so many pages, of which the last is the root
pub record HasPages (shape : Shape) (count : ℕ) : Type 0 where
  pub root : ℕ
  pub is_root : IsRoot shape root
  pub counts : count ≡ level_start shape root + 1

-- the tree of the main part
abbrev pub main_tree : Slot → Shape
main_tree s = tree (slice_index MAIN_LEAVES s.index) (slice_index MAIN_INNERS s.index) s.main_rows

-- the tree of the R-tree's deleted keys
abbrev pub deleted_tree : Slot → Shape
deleted_tree s = tree DELETED_LEAF DELETED_INNER s.second_rows

-- The second part has so many pages: those of the deleted keys, those of the postings, or none, and then it has no rows and no place.
pub record HasSecond (s : Slot) (count : ℕ) : Type 0 where
  pub deleted : s.index ≡ RTREE → HasPages (deleted_tree s) count
  pub postings : s.index ≡ INVERTED_FILE → count ≡ div_ceil s.second_rows (most_rows POSTINGS)
  pub none : s.index ≢ RTREE → s.index ≢ INVERTED_FILE → (s.second_rows ≡ 0) × (s.second_at ≡ 0) × (count ≡ 0)

-- The parts lie in the extent, the main part from its first page on, and no page is in both.
pub record HasParts (s : Slot) : Type 0 where
  pub main : ℕ
  pub main_pages : HasPages (main_tree s) main
  pub main_inside : main ≤ s.pages
  pub second : ℕ
  pub second_pages : HasSecond s second
  pub second_inside : s.second_at + second ≤ s.pages
  pub apart : (second ≡ 0) ⊎ (main ≤ s.second_at)
