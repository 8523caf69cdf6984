-- What a page of a tree is known to be once its header was looked at.
use Rattle.std.specs.Prelude.{◌≡◌, ℕ, ◌<◌, List}
use Rattle.page_codec.specs.Page.{IsPage, row_count}
use Rattle.tree_shape.specs.Shape.{IsPlace}
use Rattle.btree_image.specs.Rows.{Layout}
use Rattle.btree_image.specs.Image.{shape_of, level_kind}
use Rattle.btree_image.specs.Pages.{page_number}

-- the page at a place of the tree has the header of that place, and above the leaves a row
pub record IsTested {T K : Type 0} (l : Layout T K) (first rows : ℕ) (contents : ℕ → List ℕ) (page : ℕ) : Type 0 where
  pub level : ℕ
  pub at : ℕ
  pub place : IsPlace (shape_of l rows) level at
  pub number : page ≡ page_number l first rows level at
  pub header : IsPage (level_kind l level) level (contents page)
  pub some : 0 < level → 0 < row_count (contents page)
