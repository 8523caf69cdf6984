-- That the pages of a tree show a list, by what is told of those that are lent.
use Rattle.std.specs.Prelude.{◌≡◌, ℕ, List, Option, Some}
use Rattle.btree_image.specs.Rows.{Layout}
use Rattle.btree_image.specs.Image.{IsList, ShowsTree}

-- the pages that are lent tell their bytes, and these show the image of a list
pub record IsShown {T K : Type 0} (l : Layout T K) (contents : Option (ℕ → List ℕ)) (first rows : ℕ) (list : List T) : Type 0 where
  pub bytes : ℕ → List ℕ
  pub told : contents ≡ Some bytes
  pub is : IsList l rows list
  pub shows : ShowsTree l list first bytes
