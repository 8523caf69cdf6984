-- What a search asked for, one level further.
use Rattle.std.proofs.Common.{◌≡◌, ℕ, suc, List, [], ◌++◌, map, Option, Some, None, arith, refl, sym, ◌∙◌, ap, subst, append_assoc, append-nil}
use Rattle.std.proofs.lemmas.List.{map-append}
use Rattle.dev_model.specs.declared.page_faults.PageFault.{PageFault}
use Rattle.geo_base.specs.Corners.{Corners}
use Rattle.tree_shape.specs.declared.levels.Shape.{Shape}
use Rattle.tree_shape.specs.Shape.{level_size, level_start}
use Rattle.dev_model.specs.Asked.{GoesAlong}
use Rattle.dev_model.specs.Laws.Trail.{along-then, along-short}
use Rattle.rtree_image.specs.declared.rows.RtRow.{RtRow}
use Rattle.rtree_image.specs.Image.{page_number}
use Rattle.rtree_image.specs.Visits.{visited_at, visited_from}
use Rattle.rtree_image.specs.Steps.{AscendWithin}
use Rattle.rtree_image.proofs.Ascending.{Once, Above, within-front, within-map, once-append, above-within, above-lower, above-append}

-- a refusal in a level that has more levels below it
pub goes-short : (number : ℕ → ℕ) (seen these places whole : List ℕ) (fault : PageFault) (rest : List ℕ) → GoesAlong (Some fault) these places → seen ++ (map number places ++ rest) ≡ whole
    → GoesAlong (Some fault) (seen ++ map number these) whole
goes-short number seen these places whole fault rest goes way =
    along-short fault (seen ++ map number these) (seen ++ map number places) rest whole (append_assoc seen (map number places) rest ∙ way)
    (along-then (Some fault) seen seen (map number these) (map number places) refl (map number goes.0, sym (map-append number these goes.0) ∙ ap (map number) goes.1))

-- the last level
pub goes-last : (number : ℕ → ℕ) (seen these places whole : List ℕ) (fault : Option PageFault) → GoesAlong fault these places → seen ++ map number places ≡ whole
    → GoesAlong fault (seen ++ map number these) whole
goes-last number seen these places whole None goes way = ap (λ ps. seen ++ map number ps) goes ∙ way
goes-last number seen these places whole (Some fault) goes way = goes-short number seen these places whole fault [] goes (ap (λ ps. seen ++ ps) (append-nil (map number places)) ∙ way)

-- a list adds nothing where it has no more
goes-front : (fault : Option PageFault) (places seen : List ℕ) → GoesAlong fault seen places → (left : List ℕ) × (seen ++ left ≡ places)
goes-front None places seen e = ([], append-nil seen ∙ e)
goes-front (Some fault) places seen goes = goes

-- no page twice
module _ (s : Shape) (first level : ℕ) (seen these places : List ℕ) (once : Once seen)
    (above : Above (page_number s first level (level_size s level)) seen) (ascends : AscendWithin 0 (level_size s level) places) where
  pub level-once : (fault : Option PageFault) → GoesAlong fault these places → Once (seen ++ map (page_number s first level) these)
  level-once fault goes =
      let front = goes-front fault places these goes in
      let part = within-front 0 (level_size s level) these front.0 (subst (AscendWithin 0 (level_size s level)) (sym front.1) ascends) in
      once-append (page_number s first level 0) (page_number s first level (level_size s level)) seen _ once above
      (within-map first (level_start s level) 0 (level_size s level) these part)

pub level-above : (s : Shape) (first below : ℕ) (seen places : List ℕ) → Above (page_number s first (suc below) (level_size s (suc below))) seen
    → AscendWithin 0 (level_size s (suc below)) places → Above (page_number s first below (level_size s below)) (seen ++ map (page_number s first (suc below)) places)
unfolding level_start
level-above s first below seen places above ascends =
    above-append _ seen _ (above-lower _ _ seen (omega arith) above)
    (above-lower _ _ _ (omega arith) (above-within _ _ _ (within-map first (level_start s (suc below)) 0 (level_size s (suc below)) places ascends)))

module _ (s : Shape) (list : List RtRow) (rect : Corners) (first top : ℕ) (seen places whole : List ℕ) where
  pub way-next : (below : ℕ) → places ≡ visited_at s list rect top (suc below) → seen ++ visited_from s list rect first top (suc below) ≡ whole
      → seen ++ (map (page_number s first (suc below)) places ++ visited_from s list rect first top below) ≡ whole
  unfolding visited_from
  way-next below told way = ap (λ ps. seen ++ (map (page_number s first (suc below)) ps ++ visited_from s list rect first top below)) told ∙ way

  pub way-last : places ≡ visited_at s list rect top 0 → seen ++ visited_from s list rect first top 0 ≡ whole → seen ++ map (page_number s first 0) places ≡ whole
  unfolding visited_from
  way-last told way = ap (λ ps. seen ++ map (page_number s first 0) ps) told ∙ way
