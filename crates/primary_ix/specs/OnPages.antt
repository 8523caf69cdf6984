-- How a reader of components goes over their pages.
use Rattle.std.specs.Prelude.{ℕ, Bool, List, [], Option}
use Rattle.dev_model.specs.declared.page_faults.PageFault.{PageFault}
use Rattle.dev_model.specs.Lending.{Lending}
use Rattle.dev_model.specs.Asked.{Reads, GoesAlong}
use Rattle.primary_ix.specs.declared.component.PrimComp.{PrimComp}
use Rattle.primary_ix.specs.declared.rows.PrimRow.{PrimRow}
use Rattle.primary_ix.specs.Components.{AreShown}
use Rattle.primary_ix.specs.Roots.{AreRoots}
use Rattle.primary_ix.specs.Pages.{IsTestedIn}
use Rattle.primary_ix.specs.Damage.{IsDamagedIn}

module _ {S : Type 0} (comps : List PrimComp) (lending : S → Lending) (asked : S → S → List (ℕ × Bool) → Type 0) where
  -- a page that is given as damaged is none for its place, and without a fault each page has the header of its place
  abbrev pub ReadsAmong : (old new : S) → Option PageFault → (pages : List ℕ) → Type 0
  ReadsAmong old new fault pages = Reads lending asked (IsDamagedIn comps) (IsTestedIn comps) old new fault [] pages

  -- and where the pages show lists, those of a way, or with a fault the first few of them
  abbrev pub ReadsAlong : (old new : S) → Option PageFault → (way : List (List PrimRow) → (roots : List ℕ) → List ℕ) → Type 0
  ReadsAlong old new fault way = (pages : List ℕ) × ReadsAmong old new fault pages
      × ((disk : List (List PrimRow)) (roots : List ℕ) → AreShown (lending old).contents comps disk → AreRoots comps roots → GoesAlong fault pages (way disk roots))
