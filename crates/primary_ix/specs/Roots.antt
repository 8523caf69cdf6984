-- The levels of the roots of components.
use Rattle.std.specs.Prelude.{◌≡◌, ℕ, ◌<◌, List, length, get_or}
use Rattle.tree_shape.specs.Shape.{IsRoot}
use Rattle.btree_image.specs.Image.{shape_of}
use Rattle.primary_ix.specs.declared.component.PrimComp.{PrimComp}
use Rattle.primary_ix.specs.Rows.{prim_layout}

-- these are the levels of the components' roots
pub record AreRoots (comps : List PrimComp) (roots : List ℕ) : Type 0 where
  pub count : length roots ≡ length comps
  pub each : (i : ℕ) (comp : PrimComp) (root : ℕ) → i < length comps
      → IsRoot (shape_of prim_layout (get_or comps i comp).tree.rows) (get_or roots i root)
