-- What a reader of lent pages says, said of the components of a store.
use Rattle.std.proofs.Common.{◌≡◌, ℕ, List, Option, Result, Ok, Err, sym, ◌∙◌, subst}
use Rattle.std.specs.Prelude.{MatchResult}
use Rattle.space_map.specs.declared.space.Extent.{Extent}
use Rattle.dev_model.specs.Story.{Story}
use Rattle.dev_model.specs.declared.page_faults.PageFault.{PageFault}
use Rattle.device_pages.specs.Lending.{contents_of}
use Rattle.primary_ix.specs.Components.{AreShown}
use Rattle.primary_ix.specs.declared.component.PrimComp.{PrimComp}
use Rattle.primary_ix.specs.declared.rows.PrimRow.{PrimRow}

pub shown-there : (lent extents : List Extent) → lent ≡ extents → (first story : Option Story) → first ≡ story → (trees comps : List PrimComp) → trees ≡ comps
    → (disk : List (List PrimRow)) → AreShown (contents_of extents story) comps disk → AreShown (contents_of lent first) trees disk
shown-there lent extents lends first story begins trees comps are disk shown =
    subst (λ (contents : Option (ℕ → List ℕ)). AreShown contents trees disk) (λ j. contents_of (sym lends j) (sym begins j))
    (subst (λ (cs : List PrimComp). AreShown (contents_of extents story) cs disk) (sym are) shown)

-- another answer where it is the same
pub found-as : {X : Type 0} (result : Result X PageFault) (answer other : X) (Refused : PageFault → Type 0) → answer ≡ other → MatchResult result (λ x. x ≡ answer) Refused → MatchResult result (λ x. x ≡ other) Refused
found-as (Ok x) answer other Refused same is = is ∙ same
found-as (Err fault) answer other Refused same is = is
