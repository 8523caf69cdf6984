-- That each page of a tree is lent.
use Rattle.std.specs.Prelude.{ℕ, Bool, IsTrue}
use Rattle.tree_shape.specs.Shape.{IsPlace}
use Rattle.btree_image.specs.Rows.{Layout}
use Rattle.btree_image.specs.Image.{shape_of}
use Rattle.btree_image.specs.Pages.{page_number}

-- each page of a tree is lent
abbrev pub AreLent : {T K : Type 0} → Layout T K → (ℕ → Bool) → (first rows : ℕ) → Type 0
AreLent l lent first rows = (level at : ℕ) → IsPlace (shape_of l rows) level at → IsTrue (lent (page_number l first rows level at))
