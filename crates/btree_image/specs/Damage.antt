-- What a page has to be for its place in a tree.
use Rattle.std.specs.Prelude.{◌≡◌, ℕ, zero, suc, ◌+◌, ◌<◌, [], drop, List, length, slice_index_or, None}
use Rattle.std.specs.Int.{from_be_bytes, w32}
use Rattle.page_codec.specs.Page.{IsPage, row_count, rows_on}
use Rattle.tree_shape.specs.Shape.{level_size, level_start, IsPlace}
use Rattle.btree_image.specs.Rows.{Layout}
use Rattle.btree_image.specs.Image.{shape_of}
use Rattle.btree_image.specs.Pages.{page_number}

-- the rows of a leaf can all be read
abbrev pub AllReadable : {T K : Type 0} → Layout T K → List (List ℕ) → Type 0
AllReadable l rows = (i : ℕ) → i < length rows → l.of_bytes (slice_index_or rows i []) ≡ None → ⊥

-- a page above the leaves that leads to pages of the level below
pub record IsInnerPage {T K : Type 0} (l : Layout T K) (rows below : ℕ) (bytes : List ℕ) : Type 0 where
  pub page : IsPage l.inner (suc below) bytes
  pub some : 0 < row_count bytes
  pub children : (i : ℕ) → i < row_count bytes
      → (at : ℕ) × (at < level_size (shape_of l rows) below)
      × (level_start (shape_of l rows) below + at ≡ from_be_bytes w32 (drop l.key_width (slice_index_or (rows_on bytes) i [])))

-- a leaf whose rows can all be read
pub record IsLeafPage {T K : Type 0} (l : Layout T K) (bytes : List ℕ) : Type 0 where
  pub page : IsPage l.leaf 0 bytes
  pub readable : AllReadable l (rows_on bytes)

-- a page that may stand at a level of a tree
abbrev pub IsTreePage : {T K : Type 0} → Layout T K → (rows level : ℕ) → List ℕ → Type 0
IsTreePage l rows zero bytes = IsLeafPage l bytes
IsTreePage l rows (suc below) bytes = IsInnerPage l rows below bytes

-- the bytes at a page of the tree aren't a page for their place
pub record IsDamaged {T K : Type 0} (l : Layout T K) (first rows : ℕ) (contents : ℕ → List ℕ) (page : ℕ) : Type 0 where
  pub level : ℕ
  pub at : ℕ
  pub place : IsPlace (shape_of l rows) level at
  pub number : page ≡ page_number l first rows level at
  pub bad : IsTreePage l rows level (contents page) → ⊥
