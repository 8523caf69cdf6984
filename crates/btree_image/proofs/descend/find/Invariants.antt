use Rattle.std.proofs.Common.{◌≡◌, ℕ, ◌≤◌, List, [], ◌++◌, None}
use Rattle.tree_shape.specs.Shape.{IsRoot, IsPlace}
use Rattle.btree_image.specs.Image.{shape_of}
use Rattle.btree_image.specs.Shown.{IsShown}
use Rattle.btree_image.specs.Descent.{place_of_key, descent}
use Rattle.btree_image.specs.Reading.{ReadsTree}
use Rattle.btree_image.proofs.descend.find.Given as goal

abbrev pub invariant-loop-level : goal.invariant-loop-level
invariant-loop-level g l = record {
  place : IsPlace (shape_of g.T.TreeRow.layout l.tree.rows) l.level l.at;
  low : l.level ≤ 33;
  seen : List ℕ;
  reads : ReadsTree g.T.TreeRow.layout l.tree.first l.tree.rows g.P.Pages.lending g.P.Pages.asked l.initial.pages l.pages None [] seen;
  told : (list : List g.row.T.Denot) → IsShown g.T.TreeRow.layout (g.P.Pages.lending l.initial.pages).contents l.tree.first l.tree.rows list
      → l.at ≡ place_of_key g.T.TreeRow.layout list l.key l.level;
  way : (list : List g.row.T.Denot) (root : ℕ) → IsShown g.T.TreeRow.layout (g.P.Pages.lending l.initial.pages).contents l.tree.first l.tree.rows list
      → IsRoot (shape_of g.T.TreeRow.layout l.tree.rows) root
      → seen ++ descent g.T.TreeRow.layout l.tree.first list l.key l.level ≡ descent g.T.TreeRow.layout l.tree.first list l.key root;
}

abbrev pub decreases-loop-level : goal.decreases-loop-level
decreases-loop-level g l = l.level
