use Rattle.std.proofs.Common.{◌≡◌, ◌≢◌, ℕ, suc, ◌+◌, ◌<◌, ◌≤◌, List, [], ◌++◌, None, map, length, All, AllPairs}
use Rattle.tree_shape.specs.Shape.{level_size, level_start, IsRoot}
use Rattle.btree_image.specs.Image.{shape_of}
use Rattle.btree_image.specs.Pages.{page_number}
use Rattle.btree_image.specs.Shown.{IsShown}
use Rattle.btree_image.specs.Visited.{met_below, visited_pages}
use Rattle.btree_image.specs.Given.{AreRanges}
use Rattle.btree_image.specs.Walks.{GoesOn, walk, AllLead}
use Rattle.btree_image.proofs.over_levels.scan_levels.Given as goal

abbrev pub invariant-loop-level : goal.invariant-loop-level
invariant-loop-level g l = record {
  low : l.level ≤ 33;
  up_to_root : (j : ℕ) → j < l.level → 1 < level_size (shape_of g.T.TreeRow.layout l.tree.rows) j;
  count : length l.runs ≡ length l.ranges;
  inside : All (λ run. run.end ≤ level_size (shape_of g.T.TreeRow.layout l.tree.rows) l.level) l.runs;
  seen : List ℕ;
  goes : GoesOn g.T.TreeRow.layout l.tree.first l.tree.rows g.P.Pages.lending g.P.Pages.asked l.initial.pages l.pages None [] seen;
  once : AllPairs (λ a b. a ≢ b) seen;
  above : All (λ page. l.tree.first + level_start (shape_of g.T.TreeRow.layout l.tree.rows) (suc l.level) ≤ page) seen;
  lead : (list : List g.row.T.Denot) → IsShown g.T.TreeRow.layout (g.P.Pages.lending l.initial.pages).contents l.tree.first l.tree.rows list → AreRanges g.T.TreeRow.layout.order l.ranges
      → AllLead g.T.TreeRow.layout list l.level l.ranges l.runs;
  left : (list : List g.row.T.Denot) (root : ℕ) → IsShown g.T.TreeRow.layout (g.P.Pages.lending l.initial.pages).contents l.tree.first l.tree.rows list → AreRanges g.T.TreeRow.layout.order l.ranges
      → IsRoot (shape_of g.T.TreeRow.layout l.tree.rows) root
      → seen ++ (map (page_number g.T.TreeRow.layout l.tree.first l.tree.rows l.level) (walk 0 l.runs) ++ met_below g.T.TreeRow.layout list l.ranges l.tree.first l.level)
      ≡ visited_pages g.T.TreeRow.layout list l.ranges l.tree.first root;
}

abbrev pub decreases-loop-level : goal.decreases-loop-level
decreases-loop-level g l = l.level
