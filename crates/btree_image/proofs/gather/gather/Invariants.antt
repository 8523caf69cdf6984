use Rattle.std.proofs.Common.{◌≡◌, ℕ, suc, ◌<◌, ◌≤◌, List, [], ◌++◌, None, map, drop, length, get_or}
use Rattle.std.specs.List.{flat_map}
use Rattle.btree_image.specs.declared.runs.Run.{Run}
use Rattle.btree_image.specs.Pages.{page_number}
use Rattle.btree_image.specs.Shown.{IsShown}
use Rattle.btree_image.specs.Given.{AreRanges, rows_met}
use Rattle.btree_image.specs.Walks.{GoesOn, Holds, in_hand, walk, AllLead, rows_of}
use Rattle.btree_image.proofs.gather.gather.Given as goal

abbrev pub invariant-loop-i : goal.invariant-loop-i
invariant-loop-i g l = record {
  seen : List ℕ;
  goes : GoesOn g.T.TreeRow.layout l.tree.first l.tree.rows g.P.Pages.lending g.P.Pages.asked l.initial.pages l.pages None [] seen;
  left : seen ++ map (page_number g.T.TreeRow.layout l.tree.first l.tree.rows 0) (walk l.hand.next (drop l.i l.fn.runs))
      ≡ map (page_number g.T.TreeRow.layout l.tree.first l.tree.rows 0) (walk 0 l.fn.runs);
  before : List ℕ;
  ends : seen ≡ before ++ in_hand g.T.TreeRow.layout l.tree.first l.tree.rows 0 l.hand.next;
  holds : Holds g.T.TreeRow.layout l.tree.first l.tree.rows (g.P.Pages.lending l.initial.pages).contents 0 l.hand;
  near : (list : List g.row.T.Denot) → IsShown g.T.TreeRow.layout (g.P.Pages.lending l.initial.pages).contents l.tree.first l.tree.rows list → AreRanges g.T.TreeRow.layout.order l.fn.ranges
      → AllLead g.T.TreeRow.layout list 0 l.fn.ranges l.fn.runs → (j : ℕ) (d : Run) → l.i ≤ j → j < length l.fn.runs → l.hand.next ≤ suc (get_or l.fn.runs j d).first;
  added : List g.row.T.Denot;
  out : l.out.items ≡ l.initial.out.items ++ added;
  told : (list : List g.row.T.Denot) → IsShown g.T.TreeRow.layout (g.P.Pages.lending l.initial.pages).contents l.tree.first l.tree.rows list → AreRanges g.T.TreeRow.layout.order l.fn.ranges
      → AllLead g.T.TreeRow.layout list 0 l.fn.ranges l.fn.runs → added ++ flat_map (rows_of g.T.TreeRow.layout list) (drop l.i l.fn.ranges) ≡ rows_met g.T.TreeRow.layout list l.fn.ranges;
}
