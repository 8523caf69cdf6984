-- The components of the primary on disk, the newest first: what it means that they show lists.
use Rattle.std.specs.Prelude.{◌≡◌, ℕ, ◌<◌, List, length, get_or, Option}
use Rattle.btree_image.specs.Shown.{IsShown}
use Rattle.primary_ix.specs.declared.component.PrimComp.{PrimComp}
use Rattle.primary_ix.specs.declared.rows.PrimRow.{PrimRow}
use Rattle.primary_ix.specs.Rows.{prim_layout}

-- the pages of each component show its list
pub record AreShown (contents : Option (ℕ → List ℕ)) (comps : List PrimComp) (disk : List (List PrimRow)) : Type 0 where
  pub count : length disk ≡ length comps
  pub each : (i : ℕ) (comp : PrimComp) (list : List PrimRow) → i < length comps
      → IsShown prim_layout contents (get_or comps i comp).tree.first (get_or comps i comp).tree.rows (get_or disk i list)
