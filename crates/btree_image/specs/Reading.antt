-- How a reader of a tree goes over its pages.
use Rattle.std.specs.Prelude.{ℕ, Bool, List, Option}
use Rattle.dev_model.specs.declared.page_faults.PageFault.{PageFault}
use Rattle.dev_model.specs.Lending.{Lending}
use Rattle.dev_model.specs.Asked.{Reads}
use Rattle.btree_image.specs.Rows.{Layout}
use Rattle.btree_image.specs.Damage.{IsDamaged}
use Rattle.btree_image.specs.Tested.{IsTested}

-- a reader of a tree: a page that it gives as damaged is none for its place, and without a fault each page has the header of its place
abbrev pub ReadsTree : {T K S : Type 0} → Layout T K → (first rows : ℕ) → (S → Lending) → (S → S → List (ℕ × Bool) → Type 0) → (old new : S) → Option PageFault → (hand pages : List ℕ) → Type 0
ReadsTree l first rows lending asked = Reads lending asked (IsDamaged l first rows) (IsTested l first rows)
