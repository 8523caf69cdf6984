-- What the bytes at a place of a tree have to be for a reader to go on.
use Rattle.std.specs.Prelude.{◌≡◌, ℕ, zero, suc, ◌+◌, ◌*◌, ◌<◌, ◌≤◌, [], List, drop, slice_index_or, IsTrue}
use Rattle.std.specs.Int.{from_be_bytes, w32}
use Rattle.page_codec.specs.declared.kinds.TheConstants.{RTREE_LEAF, RTREE_INNER}
use Rattle.page_codec.specs.Page.{IsPage, row_count, rows_on}
use Rattle.geo_base.specs.Corners.{Corners}
use Rattle.tree_shape.specs.declared.levels.Shape.{Shape}
use Rattle.tree_shape.specs.Shape.{level_size, level_start, IsPlace}
use Rattle.rtree_image.specs.Bounds.{bounds_in, meets}
use Rattle.rtree_image.specs.Image.{tree_of, page_number}

-- a page above the leaves whose rows lead, one after the other, to the pages of the level below that are its children
pub record IsInnerPage (s : Shape) (below at : ℕ) (bytes : List ℕ) : Type 0 where
  pub page : IsPage RTREE_INNER (suc below) bytes
  pub some : 0 < row_count bytes
  pub inside : (i : ℕ) → i < row_count bytes → at * s.per_inner + i < level_size s below
  pub children : (i : ℕ) → i < row_count bytes
      → from_be_bytes w32 (drop 8 (slice_index_or (rows_on bytes) i [])) ≡ level_start s below + (at * s.per_inner + i)

-- a page that may stand at a place of a tree
abbrev pub IsTreePage : Shape → (level at : ℕ) → List ℕ → Type 0
IsTreePage s zero at bytes = IsPage RTREE_LEAF 0 bytes
IsTreePage s (suc below) at bytes = IsInnerPage s below at bytes

-- the bytes at a page of the tree aren't a page for their place
pub record IsDamaged (first rows : ℕ) (contents : ℕ → List ℕ) (page : ℕ) : Type 0 where
  pub level : ℕ
  pub at : ℕ
  pub place : IsPlace (tree_of rows) level at
  pub number : page ≡ page_number (tree_of rows) first level at
  pub bad : IsTreePage (tree_of rows) level at (contents page) → ⊥

-- a page above the leaves that a search for a rectangle may follow: each of its rows that meets it leads to the child of its place
pub record IsInnerPageFor (s : Shape) (rect : Corners) (below at : ℕ) (bytes : List ℕ) : Type 0 where
  pub page : IsPage RTREE_INNER (suc below) bytes
  pub some : 0 < row_count bytes
  pub inside : at * s.per_inner + row_count bytes ≤ level_size s below
  pub children : (i : ℕ) → i < row_count bytes → IsTrue (meets (bounds_in (slice_index_or (rows_on bytes) i [])) rect)
      → from_be_bytes w32 (drop 8 (slice_index_or (rows_on bytes) i [])) ≡ level_start s below + (at * s.per_inner + i)

-- a page of which all that a search for a rectangle uses is right for its place
abbrev pub IsTreePageFor : Shape → Corners → (level at : ℕ) → List ℕ → Type 0
IsTreePageFor s rect zero at bytes = IsPage RTREE_LEAF 0 bytes
IsTreePageFor s rect (suc below) at bytes = IsInnerPageFor s rect below at bytes

-- a page of the tree that was tested: all that a search for a rectangle uses of it is right for its place
pub record IsTestedFor (rect : Corners) (first rows : ℕ) (contents : ℕ → List ℕ) (page : ℕ) : Type 0 where
  pub level : ℕ
  pub at : ℕ
  pub place : IsPlace (tree_of rows) level at
  pub number : page ≡ page_number (tree_of rows) first level at
  pub good : IsTreePageFor (tree_of rows) rect level at (contents page)
