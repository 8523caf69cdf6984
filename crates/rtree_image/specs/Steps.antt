-- No public contract needs this file: the steps of a search.
use Rattle.std.specs.Prelude.{◌≡◌, ℕ, suc, ◌≤◌, Bool, List, [], ◌∷◌, ◌++◌, map, Option}
use Rattle.std.specs.List.{filter}
use Rattle.dev_model.specs.declared.page_faults.PageFault.{PageFault}
use Rattle.geo_base.specs.Corners.{Corners}
use Rattle.tree_shape.specs.declared.levels.Shape.{Shape}
use Rattle.tree_shape.specs.Shape.{level_size, children_at}
use Rattle.dev_model.specs.Lending.{Lending}
use Rattle.dev_model.specs.Asked.{GoesAlong, Reads}
use Rattle.rtree_image.specs.declared.rows.RtRow.{RtRow}
use Rattle.rtree_image.specs.Image.{tree_of, page_number}
use Rattle.rtree_image.specs.Damage.{IsDamaged, IsTestedFor}
use Rattle.rtree_image.specs.Visits.{is_met}

-- numbers that ascend strictly, from a number on and below another one
unfoldable pub AscendWithin : (low high : ℕ) → List ℕ → Type 0
AscendWithin low high [] = low ≤ high
AscendWithin low high (n ∷ ns) = (low ≤ n) × AscendWithin (suc n) high ns

-- such numbers were added
abbrev pub AddsWithin : (low high : ℕ) → (old new : List ℕ) → Type 0
AddsWithin low high old new = (more : List ℕ) × (new ≡ old ++ more) × AscendWithin low high more

-- the children of a page whose bounds meet the rectangle, by their places
abbrev pub children_met : Shape → List RtRow → Corners → (below at : ℕ) → List ℕ
children_met s list rect below at = filter (is_met s list rect below) (children_at (level_size s below) s.per_inner at)

module _ {S : Type 0} (rect : Corners) (first rows : ℕ) (lending : S → Lending) (asked : S → S → List (ℕ × Bool) → Type 0) (old new : S) (fault : Option PageFault) where
  -- a search went over these pages: one that it gives as damaged is none for its place, and without a fault each is tested
  abbrev pub ReadsTree : (pages : List ℕ) → Type 0
  ReadsTree pages = Reads lending asked (IsDamaged first rows) (IsTestedFor rect first rows) old new fault [] pages

  -- over those at these places of a level, or with a fault the first few of them
  abbrev pub ReadsLevel : (level : ℕ) (places : List ℕ) → Type 0
  ReadsLevel level places = (seen : List ℕ) × ReadsTree (map (page_number (tree_of rows) first level) seen) × GoesAlong fault seen places
