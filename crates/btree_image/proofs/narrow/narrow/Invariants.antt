use Rattle.std.proofs.Common.{◌≡◌, ℕ, suc, ◌<◌, ◌≤◌, List, [], ◌++◌, None, map, drop, length, get_or}
use Rattle.btree_image.specs.declared.runs.Run.{Run}
use Rattle.tree_shape.specs.Shape.{level_size}
use Rattle.btree_image.specs.Image.{shape_of}
use Rattle.btree_image.specs.Pages.{page_number}
use Rattle.btree_image.specs.Shown.{IsShown}
use Rattle.btree_image.specs.Given.{AreRanges}
use Rattle.btree_image.specs.Walks.{GoesOn, Holds, walk, run_of, AllLead}
use Rattle.btree_image.proofs.narrow.narrow.Given as goal

abbrev pub invariant-loop-i : goal.invariant-loop-i
invariant-loop-i g l = record {
  seen : List ℕ;
  goes : GoesOn g.T.TreeRow.layout l.tree.first l.tree.rows g.P.Pages.lending g.P.Pages.asked l.initial.pages l.pages None [] seen;
  left : seen ++ map (page_number g.T.TreeRow.layout l.tree.first l.tree.rows (suc l.below)) (walk l.hand.next (drop l.i l.initial.runs))
      ≡ map (page_number g.T.TreeRow.layout l.tree.first l.tree.rows (suc l.below)) (walk 0 l.initial.runs);
  holds : Holds g.T.TreeRow.layout l.tree.first l.tree.rows (g.P.Pages.lending l.initial.pages).contents (suc l.below) l.hand;
  count : length l.runs ≡ length l.initial.runs;
  same : (j : ℕ) (d : Run) → l.i ≤ j → get_or l.runs j d ≡ get_or l.initial.runs j d;
  inside : (j : ℕ) (d : Run) → j < l.i → (get_or l.runs j d).end ≤ level_size (shape_of g.T.TreeRow.layout l.tree.rows) l.below;
  near : (list : List g.row.T.Denot) → IsShown g.T.TreeRow.layout (g.P.Pages.lending l.initial.pages).contents l.tree.first l.tree.rows list → AreRanges g.T.TreeRow.layout.order l.ranges
      → AllLead g.T.TreeRow.layout list (suc l.below) l.ranges l.initial.runs → (j : ℕ) (d : Run) → l.i ≤ j → j < length l.initial.runs → l.hand.next ≤ suc (get_or l.initial.runs j d).first;
  done : (list : List g.row.T.Denot) → IsShown g.T.TreeRow.layout (g.P.Pages.lending l.initial.pages).contents l.tree.first l.tree.rows list → AreRanges g.T.TreeRow.layout.order l.ranges
      → AllLead g.T.TreeRow.layout list (suc l.below) l.ranges l.initial.runs → (j : ℕ) (range : g.row.T-Key.Denot × g.row.T-Key.Denot) (d : Run) → j < l.i
      → get_or l.runs j d ≡ run_of g.T.TreeRow.layout list l.below (get_or l.ranges j range);
}
