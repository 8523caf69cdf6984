-- The pages that are read where all rows of the components are wanted.
use Rattle.std.specs.Prelude.{ℕ, List, [], ◌∷◌, ◌++◌}
use Rattle.btree_image.specs.TreePages.{tree_pages}
use Rattle.primary_ix.specs.declared.component.PrimComp.{PrimComp}
use Rattle.primary_ix.specs.Rows.{prim_layout}

-- all pages of each component's tree, the newest first, by the levels of the roots
unfoldable pub all_pages : List PrimComp → (roots : List ℕ) → List ℕ
all_pages [] roots = []
all_pages (comp ∷ older) [] = []
all_pages (comp ∷ older) (root ∷ roots) = tree_pages prim_layout comp.tree.first comp.tree.rows root ++ all_pages older roots
